-- An expression without fault has at most 1,024 values.
use Rattle.std.proofs.Common.{◌≡◌, ◌≤◌, ℕ, zero, suc, ℤ, pos, negsuc, ◌+ℤ◌, int_lt, Bool, true, false, not, ◌||◌, if◌then◌else◌, IsFalse, List, [], ◌∷◌, ◌++◌, map, length, Option, Some, None, refl, sym, ap, subst, arith}
use Rattle.std.specs.Prelude.{nat_lt}
use Rattle.std.proofs.lemmas.Int.{ints}
use Rattle.std.specs.Ordering.{int_eq}
use Rattle.std.proofs.lemmas.Bool.{or_parts, ltb-false}
use Rattle.cov_syntax.specs.declared.tree.Span.{Span}
use Rattle.cov_syntax.specs.declared.fault.ModelFault.{ModelFault}
use Rattle.cov_syntax.specs.declared.tree.Value.TheVariants as v
use Rattle.cov_syntax.specs.declared.tree.Op2.{Op2}
use Rattle.cov_syntax.specs.declared.tree.Op2.TheVariants as op2
use Rattle.cov_syntax.specs.declared.tree.Expr.{Expr}
use Rattle.cov_syntax.specs.declared.tree.Node.TheOpen.{Node-F}
use Rattle.cov_model.specs.Kinds.{Kind, boolean, interval, among, Kinds, kind_at, integers, count, values_of, own_of_one, own_of_two, joined_kind}
use Rattle.cov_model.specs.Walk as walk
use Rattle.cov_model.specs.Walk.{first, fault_if, is_wide, range_too_wide, set_place, bad_type, May, Judged, put, judged, own, bit, tests_of_one, tests_of_two, tests_of_set, tests_of_case, case_own}
use Rattle.cov_model.proofs.Tied.{Layer, first_none, first_none_right, no_fault}
use Rattle.cov_model.proofs.Closed.{integer, judged_branch, judged_layer, judged_step, by_top}
use Rattle.cov_ranges.proofs.PartFaults.{wide_fault}

last_test : (tests : List (Option ModelFault)) (k : Kind) (place : Span) → first (tests ++ wide_fault k place) ≡ None → IsFalse (is_wide k)
last_test tests k place f = no_fault (is_wide k) range_too_wide place (first_none (fault_if (is_wide k) range_too_wide place) [] (first_none_right tests (wide_fault k place) f)).0

zero_or_one : (i : ℤ) (b : Bool) → bit i ≡ Some b → IsFalse (is_wide (interval i i))
zero_or_one i b h = by (int_eq i (pos 0)) (int_eq i (pos 1)) refl refl h
  where
    by : (c d : Bool) → int_eq i (pos 0) ≡ c → int_eq i (pos 1) ≡ d → (if c then Some false else if d then Some true else None) ≡ Some b → IsFalse (is_wide (interval i i))
    by true d e f g = let q : i ≡ pos 0 = grind (arith, ints) in subst (λ (z : ℤ). IsFalse (is_wide (interval z z))) (sym q) refl
    by false true e f g = let q : i ≡ pos 1 = grind (arith, ints) in subst (λ (z : ℤ). IsFalse (is_wide (interval z z))) (sym q) refl
    by false false e f g = cc

integer_narrow : (place : Span) (i : ℤ) (o : Option Bool) (may : May) → bit i ≡ o → (integer place i o).fault may ≡ None → IsFalse (is_wide (integer place i o).own)
integer_narrow place i None may h f = last_test [] (interval i i) place f
integer_narrow place i (Some b) may h f = zero_or_one i b h

two_narrow : (ks : Kinds) (place : Span) (op : Op2) (a b : Judged) (may : May) → (walk.of_node ks (Node-F.Two op a b) place).fault may ≡ None → IsFalse (is_wide (walk.of_node ks (Node-F.Two op a b) place).own)
two_narrow ks place op2.Union a b may f = last_test (tests_of_set place (a ∷ b ∷ []) may) (own_of_two op2.Union a.own b.own) place f
two_narrow ks place op a b may f = last_test (tests_of_two place op a b may) (own_of_two op a.own b.own) place f

narrow_top : (ks : Kinds) (place : Span) (l : Layer) (may : May) → (walk.of_node ks (judged_layer ks l) place).fault may ≡ None → IsFalse (is_wide (walk.of_node ks (judged_layer ks l) place).own)
narrow_top ks place (Node-F.Lit (v.Bool b)) may f = refl
narrow_top ks place (Node-F.Lit (v.Int i)) may f = integer_narrow place i (bit i) may refl f
narrow_top ks place (Node-F.Lit (v.Sym s)) may f = refl
narrow_top ks place (Node-F.Path p) may f = refl
narrow_top ks place (Node-F.Var i) may f = last_test [] (kind_at ks.vars i) place f
narrow_top ks place (Node-F.Def i) may f = last_test [] (kind_at ks.defs i) place f
narrow_top ks place (Node-F.One op a) may f = last_test (tests_of_one place op (judged ks a) may) (own_of_one op (judged ks a).own) place f
narrow_top ks place (Node-F.Two op a b) may f = two_narrow ks place op (judged ks a) (judged ks b) may f
narrow_top ks place (Node-F.Range low high) may f = last_test (fault_if (int_lt high low) bad_type place ∷ fault_if (not may.set) set_place place ∷ []) (interval low high) place f
narrow_top ks place (Node-F.Set es) may f = last_test (tests_of_set place (map (judged ks) es) may) (joined_kind (map (λ (j : Judged). j.own) (map (judged ks) es))) place f
narrow_top ks place (Node-F.Case bs) may f = last_test (tests_of_case place (map (judged_branch ks) bs) may) (case_own (map (judged_branch ks) bs)) place f

pub narrow : (ks : Kinds) (e : Expr) (may : May) → (judged ks e).fault may ≡ None → IsFalse (is_wide (own ks e))
narrow ks e may = by_top (λ f. (judged ks f).fault may ≡ None → IsFalse (is_wide (judged ks f).own))
    (λ place l. subst (λ (j : Judged). j.fault may ≡ None → IsFalse (is_wide j.own)) (sym (judged_step ks place l)) (narrow_top ks place l may)) e

-- ---- how many values

integers_length : (n : ℕ) (low : ℤ) → length (integers low n) ≡ n
integers_length zero low = refl
integers_length (suc n) low = ap suc (integers_length n (low +ℤ pos 1))

pub few_values : (k : Kind) → IsFalse (is_wide k) → length (values_of k) ≤ 1024
few_values boolean h = omega arith
few_values (interval low high) h =
    let a = or_parts (int_lt low (negsuc 999999) || int_lt (pos 1000000) high) (nat_lt 1024 (count low high)) h in
    omega (arith, integers_length (count low high) low, ltb-false 1024 (count low high) a.1)
few_values (among xs) h = ltb-false 1024 (length xs) h
