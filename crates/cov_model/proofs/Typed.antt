-- In a typed state of a well-formed model every reading is of its kind, and the machine reads the same.
use Rattle.std.proofs.Common.{◌≡◌, ◌≤ℤ◌, ◌<◌, ℕ, zero, suc, ℤ, pos, Bool, true, false, not, ◌&&◌, ◌||◌, if◌then◌else◌, IsTrue, IsFalse, List, [], ◌∷◌, ◌++◌, map, length, Option, Some, None, refl, sym, ap, subst, ◌∙◌, arith}
use Rattle.std.specs.Prelude.{nat_lt, slice_get, unwrap_or}
use Rattle.std.specs.List.{list_any, list_all}
use Rattle.std.specs.Int.{int_min, int_max}
use Rattle.std.proofs.lemmas.Int.{ints, clamps}
use Rattle.cov_syntax.specs.declared.tree.Value.{Value}
use Rattle.cov_syntax.specs.declared.tree.Value.TheVariants as v
use Rattle.cov_syntax.specs.declared.tree.Expr.{Expr}
use Rattle.cov_model.specs.declared.model.Signal.{Signal}
use Rattle.cov_model.specs.declared.model.Var.{Var}
use Rattle.cov_model.specs.declared.model.Define.{Define}
use Rattle.cov_model.specs.declared.model.Model.{Model}
use Rattle.cov_model.specs.Values.{item, same_value, within, number, inverse, whole, machine}
use Rattle.cov_model.specs.Meaning.{Readings, Point, still, same_signal, flipped, value, define_values}
use Rattle.cov_model.specs.Machine as made
use Rattle.cov_model.specs.States.{State, values_at, fits, is_typed, readings_in}
use Rattle.cov_model.specs.Kinds.{Kind, boolean, interval, among, Kinds, kind_at, of_kind, is_truth, is_integer, member, hull_of, kind_of_values}
use Rattle.cov_model.specs.Walk.{first, May, Judged, judged, own, kind_fault, put}
use Rattle.cov_model.specs.Order.{with_body}
use Rattle.cov_model.specs.Settled.{known, define_kinds, define_faults, settled_defines, settled, whole_fault, variable_kinds, kinds_of, steady}
use Rattle.cov_model.specs.WellFormed.{are_values}
use Rattle.cov_model.specs.Laws.{ReadsKinds, Keeps}
use Rattle.cov_model.proofs.Kept.{bounds, within_bounds}
use Rattle.cov_model.proofs.Joins.{or_left, or_right, or_case}
use Rattle.cov_model.proofs.Joined.{and_split, and_join}
use Rattle.cov_model.proofs.Tied.{first_none}
use Rattle.cov_model.proofs.Law.{law}

-- ---- the values of a variable

self_member : (xs : List Value) (i : ℕ) → i < length xs → IsTrue (member xs (item xs i))
self_member [] i h = absurd (omega arith)
self_member (x ∷ xs) zero h = or_left _ _ (same x)
  where
    same : (x : Value) → IsTrue (same_value x x)
    same (v.Bool true) = refl
    same (v.Bool false) = refl
    same (v.Int n) = grind (arith, ints)
    same (v.Sym n) = grind arith
self_member (x ∷ xs) (suc i) h = or_right (same_value x (item xs i)) _ (self_member xs i (omega arith))

not_any : (a b : Bool) → IsTrue (not (a || b)) → IsTrue (not a) × IsTrue (not b)
not_any true b h = cc
not_any false b h = (refl, h)

no_truth_at : (xs : List Value) (i : ℕ) → i < length xs → IsTrue (not (list_any is_truth xs)) → IsTrue (not (is_truth (item xs i)))
no_truth_at [] i h g = absurd (omega arith)
no_truth_at (x ∷ xs) zero h g = (not_any (is_truth x) (list_any is_truth xs) g).0
no_truth_at (x ∷ xs) (suc i) h g = no_truth_at xs i (omega arith) (not_any (is_truth x) (list_any is_truth xs) g).1

number_within : (low high : ℤ) (x : Value) → IsTrue (is_integer x) → low ≤ℤ number x → number x ≤ℤ high → IsTrue (within low high x)
number_within low high (v.Bool b) h g k = cc
number_within low high (v.Sym s) h g k = cc
number_within low high (v.Int n) h g k = within_bounds low high n g k

wider : (low high m n : ℤ) (x : Value) → IsTrue (within low high x) → m ≤ℤ low → high ≤ℤ n → IsTrue (within m n x)
wider low high m n (v.Bool b) h g k = cc
wider low high m n (v.Sym s) h g k = cc
wider low high m n (v.Int i) h g k = let r = bounds low high i h in within_bounds m n i (omega (arith, ints)) (omega (arith, ints))

-- a value in the hull so far stays in it
hull_keeps : (low high : ℤ) (xs : List Value) (x : Value) → IsTrue (within low high x) → IsTrue (of_kind (hull_of low high xs) x)
hull_keeps low high [] x h = h
hull_keeps low high (y ∷ ys) x h = hull_keeps (int_min low (number y)) (int_max high (number y)) ys x
    (wider low high (int_min low (number y)) (int_max high (number y)) x h (omega (arith, ints, clamps)) (omega (arith, ints, clamps)))

hull_has : (low high : ℤ) (xs : List Value) (i : ℕ) → i < length xs → IsTrue (list_all is_integer xs) → IsTrue (of_kind (hull_of low high xs) (item xs i))
hull_has low high [] i h g = absurd (omega arith)
hull_has low high (y ∷ ys) zero h g = hull_keeps (int_min low (number y)) (int_max high (number y)) ys y
    (number_within (int_min low (number y)) (int_max high (number y)) y (and_split (is_integer y) (list_all is_integer ys) g).0 (omega (arith, ints, clamps)) (omega (arith, ints, clamps)))
hull_has low high (y ∷ ys) (suc i) h g = hull_has (int_min low (number y)) (int_max high (number y)) ys i (omega arith) (and_split (is_integer y) (list_all is_integer ys) g).1

first_in_hull : (x : Value) (xs : List Value) → IsTrue (is_integer x) → IsTrue (of_kind (hull_of (number x) (number x) xs) x)
first_in_hull x xs h = hull_keeps (number x) (number x) xs x (number_within (number x) (number x) x h (omega (arith, ints)) (omega (arith, ints)))

-- no Boolean among them
value_of_others : (x : Value) (xs : List Value) (i : ℕ) → IsTrue (not (list_any is_truth (x ∷ xs))) → i < length (x ∷ xs) → IsTrue (of_kind (kind_of_values (x ∷ xs)) (item (x ∷ xs) i))
value_of_others x xs i g h = by (is_truth x) (list_all is_integer (x ∷ xs)) refl refl (not_any (is_truth x) (list_any is_truth xs) g).0
  where
    in_hull : (i : ℕ) → i < length (x ∷ xs) → IsTrue (list_all is_integer (x ∷ xs)) → IsTrue (of_kind (hull_of (number x) (number x) xs) (item (x ∷ xs) i))
    in_hull zero h k = first_in_hull x xs (and_split (is_integer x) (list_all is_integer xs) k).0
    in_hull (suc i) h k = hull_has (number x) (number x) xs i (omega arith) (and_split (is_integer x) (list_all is_integer xs) k).1

    by : (a b : Bool) → is_truth x ≡ a → list_all is_integer (x ∷ xs) ≡ b → IsTrue (not a)
        → IsTrue (of_kind (if a then boolean else if b then hull_of (number x) (number x) xs else among (x ∷ xs)) (item (x ∷ xs) i))
    by true b d e k = cc
    by false true d e k = in_hull i h e
    by false false d e k = and_join (not (is_truth (item (x ∷ xs) i))) (member (x ∷ xs) (item (x ∷ xs) i)) (no_truth_at (x ∷ xs) i h g) (self_member (x ∷ xs) i h)

two_truths : (i : ℕ) → i < 2 → IsTrue (of_kind boolean (item (v.Bool false ∷ v.Bool true ∷ []) i))
two_truths zero h = refl
two_truths (suc zero) h = refl
two_truths (suc (suc i)) h = absurd (omega arith)

value_in : (xs : List Value) (i : ℕ) → IsTrue (are_values xs) → i < length xs → IsTrue (of_kind (kind_of_values xs) (item xs i))
value_in [] i g h = absurd (omega arith)
value_in (v.Bool false ∷ v.Bool true ∷ []) i g h = two_truths i h
value_in (x ∷ xs) i g h = value_of_others x xs i g h

-- ---- kinds and values, place by place

abbrev pub AllOf : List Kind → List Value → Type 0
AllOf [] [] = Unit {0}
AllOf (k ∷ ks) (x ∷ xs) = IsTrue (of_kind k x) × AllOf ks xs
AllOf _ _ = ⊥

at : (ks : List Kind) (xs : List Value) (i : ℕ) → AllOf ks xs → IsTrue (of_kind (kind_at ks i) (item xs i))
at [] [] i h = refl
at [] (x ∷ xs) i h = absurd h
at (k ∷ ks) [] i h = absurd h
at (k ∷ ks) (x ∷ xs) zero h = h.0
at (k ∷ ks) (x ∷ xs) (suc i) h = at ks xs i h.1

one_more : (ks : List Kind) (xs : List Value) (k : Kind) (x : Value) → AllOf ks xs → IsTrue (of_kind k x) → AllOf (ks ++ k ∷ []) (xs ++ x ∷ [])
one_more [] [] k x h g = (g, tt)
one_more [] (y ∷ ys) k x h g = absurd h
one_more (l ∷ ls) [] k x h g = absurd h
one_more (l ∷ ls) (y ∷ ys) k x h g = (h.0, one_more ls ys k x h.1 g)

below : (a b : ℕ) → IsTrue (nat_lt a b) → a < b
below a b h = grind arith

pub vars_of : (xs : List Var) (s : State) → IsTrue (fits xs s) → IsTrue (list_all (λ (x : Var). are_values x.values) xs) → AllOf (map (λ (x : Var). kind_of_values x.values) xs) (values_at xs s)
vars_of [] [] h g = tt
vars_of [] (i ∷ s) h g = cc
vars_of (x ∷ xs) [] h g = cc
vars_of (x ∷ xs) (i ∷ s) h g =
    let c = and_split (nat_lt i (length x.values)) (fits xs s) h in
    let d = and_split (are_values x.values) (list_all (λ (y : Var). are_values y.values) xs) g in
    (value_in x.values i d.0 (below i (length x.values) c.0), vars_of xs s c.1 d.1)

-- ---- flips

inverse_of : (k : Kind) (x : Value) → IsTrue (of_kind k x) → IsTrue (of_kind k (inverse x))
inverse_of k (v.Int n) h = h
inverse_of k (v.Sym s) h = h
inverse_of boolean (v.Bool b) h = refl
inverse_of (interval low high) (v.Bool b) h = cc
inverse_of (among xs) (v.Bool b) h = cc

flipped_of : (flip : Option Signal) (q : Signal) (k : Kind) (x : Value) → IsTrue (of_kind k x) → IsTrue (of_kind k (flipped flip q x))
flipped_of None q k x h = h
flipped_of (Some p) q k x h = by (same_signal p q)
  where
    by : (b : Bool) → IsTrue (of_kind k (if b then inverse x else x))
    by true = inverse_of k x h
    by false = h

pub reads_of : (vk dk : List Kind) (vars defs : List Value) (flip : Option Signal) → AllOf vk vars → AllOf dk defs → ReadsKinds (known vk dk) (record { vars = vars; defs = defs; flip = flip })
reads_of vk dk vars defs flip h g = record {
  vars = λ i. flipped_of flip _ (kind_at vk i) (item vars i) (at vk vars i h);
  defs = λ i. flipped_of flip _ (kind_at dk i) (item defs i) (at dk defs i g);
}

-- ---- DEFINEs

pub record DefinesKeep (vk : List Kind) (vars : List Value) (flip : Option Signal) (ds : List Define) (ks : List Kind) (xs : List Value) : Type 0 where
  pub kept : AllOf (define_kinds vk ds ks) (define_values ds vars flip xs)
  pub same : made.define_values ds vars flip xs ≡ define_values ds vars flip xs

pub defines_keep : (vk : List Kind) (vars : List Value) (flip : Option Signal) (ds : List Define) (ks : List Kind) (xs : List Value)
    → AllOf vk vars → AllOf ks xs → first (define_faults vk ds ks) ≡ None → settled_defines vk ds ks ≡ ds → DefinesKeep vk vars flip ds ks xs
defines_keep vk vars flip [] ks xs h g f s = record { kept = g; same = refl }
defines_keep vk vars flip (d ∷ ds) ks xs h g f s =
    let j : Judged = judged (known vk ks) d.body in
    let r : Readings = record { vars = vars; defs = xs; flip = flip } in
    let rest : List (Option _) = define_faults vk ds (ks ++ j.own ∷ []) in
    let c = first_none (whole_fault (known vk ks) steady None d.body) rest f in
    let e = first_none (j.fault steady) (kind_fault None j ∷ []) c.0 in
    let head : with_body (settled (known vk ks) false) d ≡ d = cc in
    let tail : settled_defines vk ds (ks ++ j.own ∷ []) ≡ ds = cc in
    let reads = reads_of vk ks vars xs flip h g in
    let k = (law d.body (known vk ks)).keeps steady false (still r) e.0 (λ u. cc) (ap (λ (z : Define). z.body) head) reads reads in
    let next = defines_keep vk vars flip ds (ks ++ j.own ∷ []) (xs ++ value d.body (still r) ∷ []) h (one_more ks xs j.own (value d.body (still r)) g (k.value_of refl)) c.1 tail in
    record {
      kept = next.kept;
      same = ap (λ (x : Value). made.define_values ds vars flip (xs ++ x ∷ [])) k.same_value ∙ next.same;
    }
