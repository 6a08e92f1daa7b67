-- The claims for literals, readings, ranges and operators.
use Rattle.std.proofs.Common.{◌≡◌, ℕ, ℤ, pos, ◌+ℤ◌, ◌-ℤ◌, ◌*ℤ◌, neg_ℤ, int_div, int_lt, int_le, Bool, true, false, not, ◌&&◌, ◌||◌, if◌then◌else◌, IsTrue, IsFalse, List, [], ◌∷◌, ◌++◌, map, Option, Some, None, refl, sym, ap, subst, ◌∙◌, arith}
use Rattle.std.specs.Prelude.{nat_lt, negsuc}
use Rattle.std.specs.Ordering.{int_eq}
use Rattle.std.proofs.lemmas.Int.{ints}
use Rattle.cov_syntax.specs.declared.tree.Span.{Span}
use Rattle.cov_syntax.specs.declared.fault.ModelFault.{ModelFault}
use Rattle.cov_syntax.specs.declared.tree.Value.{Value}
use Rattle.cov_syntax.specs.declared.tree.Value.TheVariants as v
use Rattle.cov_syntax.specs.declared.tree.Op1.{Op1}
use Rattle.cov_syntax.specs.declared.tree.Op1.TheVariants as op1
use Rattle.cov_syntax.specs.declared.tree.Op2.{Op2}
use Rattle.cov_syntax.specs.declared.tree.Op2.TheVariants as op2
use Rattle.cov_syntax.specs.declared.tree.Expr.{Expr, roll-Expr}
use Rattle.cov_syntax.specs.declared.tree.Node.{Node, roll-Node, out-Node, out-roll-Node}
use Rattle.cov_syntax.specs.declared.tree.Node.TheVariants as n
use Rattle.cov_syntax.specs.declared.tree.Node.TheOpen.{Node-F}
use Rattle.cov_model.specs.Values.{truth as truth_of, number as number_of, same_value, within, operated, remainder, whole, machine}
use Rattle.cov_model.specs.Meaning as meaning
use Rattle.cov_model.specs.Meaning.{Point, Meaning, single, choices, moved, prefixed, joined, variable, define}
use Rattle.cov_model.specs.Kinds.{Kind, boolean, interval, among, is_boolean, is_number, Kinds, of_kind, kind_at, width, own_of_one, own_of_two, member, is_truth}
use Rattle.cov_model.specs.Walk.{first, fault_if, is_wide, May, Asks, truth, number, kind_fits, Judged, put, kind_fault, asks_truth, simple, bit, judged_bit, judged_literal, of_node, asked_of_one, asked_of_two, may_of_one, may_of_left, may_of_right, plain_may, nothing_may, tests_of_one, tests_of_two, judged_two, is_temporal_one, is_temporal_two, temporal_place, next_place, divisor_may_be_zero, divides, has_zero, range_too_wide, bad_type, set_place}
use Rattle.cov_model.specs.Laws.{ReadsKinds, kind_in, Keeps}
use Rattle.cov_model.proofs.Tied.{Tied, first_none, no_fault, no_misfit, no_misfit_truth, fits_where, is_boolean-eq, kind_in_simple, single_keeps, Layer, injected}
use Rattle.cov_model.proofs.Joins.{same_value-eq, machine-small}
use Rattle.cov_model.proofs.Kept.{bounds, within_bounds, sum_kept, difference_kept, product_kept, quotient_kept, remainder_kept, opposite_kept}

-- ---- literals

-- a literal that no Boolean place turns
plain_literal : (ks : Kinds) (place : Span) (x : Value) (k : Kind) → IsTrue (of_kind k x) → (IsTrue (kind_fits number k) → IsTrue (is_number k))
    → Tied ks (simple place (n.Lit x) k (λ may. []) (n.Lit x)) (single (λ p. x)) (single (λ p. x)) (put place (roll-Node (Node-F.Lit x)))
plain_literal ks place x k h g = record {
  tree = ap (put place) (sym (n.rolls-Lit x));
  is_numeric = λ may f s q. g (fits_where (kind_fits number k) place q);
  keeps = λ may b p f t s r r'. single_keeps (kind_in b k) may (λ p. x) (λ p. x) p (subst (λ (l : Kind). IsTrue (of_kind l x)) (sym (kind_in_simple b k place t)) h) refl;
}

within_self : (i : ℤ) → IsTrue (within i i (v.Int i))
within_self i = grind (arith, ints)

not_bool : (i : ℤ) (c : Bool) (place : Span) → put place (n.Lit (v.Bool c)) ≡ put place (roll-Node (Node-F.Lit (v.Int i))) → ⊥
not_bool i c place h = let e : Node-F.Lit (v.Bool c) ≡ Node-F.Lit (v.Int i) = injected (n.Lit (v.Bool c)) (Node-F.Lit (v.Bool c)) (Node-F.Lit (v.Int i)) place (n.rolls-Lit (v.Bool c)) h in cc

bit_literal : (ks : Kinds) (place : Span) (i : ℤ) (c : Bool)
    → Tied ks (judged_bit place i c) (single (λ p. v.Int i)) (single (λ p. v.Int i)) (put place (roll-Node (Node-F.Lit (v.Int i))))
bit_literal ks place i c = record {
  tree = ap (put place) (sym (n.rolls-Lit (v.Int i)));
  is_numeric = λ may f s q. refl;
  keeps = λ may b p f t s r r'. by may b p s;
}
  where
    by : (may : May) (b : Bool) (p : Point) → put place (n.Lit (if b then v.Bool c else v.Int i)) ≡ put place (roll-Node (Node-F.Lit (v.Int i))) → Keeps (kind_in b (interval i i)) may (single (λ p. v.Int i)) (single (λ p. v.Int i)) p
    by may true p s = absurd (not_bool i c place s)
    by may false p s = single_keeps (interval i i) may (λ p. v.Int i) (λ p. v.Int i) p (within_self i) refl

integer_literal : (ks : Kinds) (place : Span) (i : ℤ) (o : Option Bool)
    → Tied ks (elim o [ None ↦ simple place (n.Lit (v.Int i)) (interval i i) (λ may. []) (n.Lit (v.Int i)) | Some b ↦ judged_bit place i b ])
    (single (λ p. v.Int i)) (single (λ p. v.Int i)) (put place (roll-Node (Node-F.Lit (v.Int i))))
integer_literal ks place i None = plain_literal ks place (v.Int i) (interval i i) (within_self i) (λ h. refl)
integer_literal ks place i (Some b) = bit_literal ks place i b

symbol_self : (s : ℕ) → IsTrue (member (v.Sym s ∷ []) (v.Sym s))
symbol_self s = grind arith

pub tied_literal : (ks : Kinds) (place : Span) (x : Value) → Tied ks (judged_literal place x) (single (λ p. x)) (single (λ p. x)) (put place (roll-Node (Node-F.Lit x)))
tied_literal ks place (v.Bool b) = plain_literal ks place (v.Bool b) boolean refl (λ h. h)
tied_literal ks place (v.Int i) = integer_literal ks place i (bit i)
tied_literal ks place (v.Sym s) = plain_literal ks place (v.Sym s) (among (v.Sym s ∷ [])) (symbol_self s) (λ h. h)

-- ---- readings

reading : (ks : Kinds) (place : Span) (m : Node) (l : Layer) (k : Kind) (f : Point → Value) → roll-Node l ≡ m
    → ((p : Point) → ReadsKinds ks p.present → IsTrue (of_kind k (f p)))
    → Tied ks (simple place m k (λ may. []) m) (single f) (single f) (put place (roll-Node l))
reading ks place m l k f r h = record {
  tree = ap (put place) (sym r);
  is_numeric = λ may g s q. fits_where (kind_fits number k) place q;
  keeps = λ may b p g t s d d'. single_keeps (kind_in b k) may f f p (subst (λ (z : Kind). IsTrue (of_kind z (f p))) (sym (kind_in_simple b k place t)) (h p d)) refl;
}

pub tied_path : (ks : Kinds) (place : Span) (path : List ℕ) → Tied ks (simple place (n.Path path) boolean (λ may. []) (n.Path path)) (single (λ p. v.Bool false)) (single (λ p. v.Bool false)) (put place (roll-Node (Node-F.Path path)))
tied_path ks place path = reading ks place (n.Path path) (Node-F.Path path) boolean (λ p. v.Bool false) (n.rolls-Path path) (λ p d. refl)

pub tied_variable : (ks : Kinds) (place : Span) (i : ℕ) → Tied ks (simple place (n.Var i) (kind_at ks.vars i) (λ may. []) (n.Var i)) (single (λ p. variable p.present i)) (single (λ p. variable p.present i)) (put place (roll-Node (Node-F.Var i)))
tied_variable ks place i = reading ks place (n.Var i) (Node-F.Var i) (kind_at ks.vars i) (λ p. variable p.present i) (n.rolls-Var i) (λ p d. d.vars i)

pub tied_define : (ks : Kinds) (place : Span) (i : ℕ) → Tied ks (simple place (n.Def i) (kind_at ks.defs i) (λ may. []) (n.Def i)) (single (λ p. define p.present i)) (single (λ p. define p.present i)) (put place (roll-Node (Node-F.Def i)))
tied_define ks place i = reading ks place (n.Def i) (Node-F.Def i) (kind_at ks.defs i) (λ p. define p.present i) (n.rolls-Def i) (λ p d. d.defs i)

-- ---- ranges

pub must_be_set : (may : May) (place : Span) → fault_if (not may.set) set_place place ≡ None → IsFalse may.set → ⊥
must_be_set may place h s = by may.set h s
  where
    by : (b : Bool) → fault_if (not b) set_place place ≡ None → IsFalse b → ⊥
    by true h s = cc
    by false h s = cc

set_fault : (may : May) (place : Span) (low high : ℤ)
    → first (fault_if (int_lt high low) bad_type place ∷ fault_if (not may.set) set_place place ∷ fault_if (is_wide (interval low high)) range_too_wide place ∷ []) ≡ None
    → fault_if (not may.set) set_place place ≡ None
set_fault may place low high f =
    let a : Option ModelFault = fault_if (int_lt high low) bad_type place in
    let b : Option ModelFault = fault_if (not may.set) set_place place in
    let c : Option ModelFault = fault_if (is_wide (interval low high)) range_too_wide place in
    (first_none b (c ∷ []) (first_none a (b ∷ c ∷ []) f).1).0

pub tied_range : (ks : Kinds) (place : Span) (low high : ℤ)
    → Tied ks (of_node ks (Node-F.Range low high) place) (meaning.of_node whole (Node-F.Range low high)) (meaning.of_node machine (Node-F.Range low high)) (put place (roll-Node (Node-F.Range low high)))
tied_range ks place low high = record {
  tree = ap (put place) (sym (n.rolls-Range low high));
  is_numeric = λ may f s q. refl;
  keeps = λ may b p f t s r r'. record {
    choices = λ x q. subst (λ (z : Kind). IsTrue (of_kind z x)) (sym (kind_in_simple b (interval low high) place t)) q;
    value_of = λ q. absurd (must_be_set may place (set_fault may place low high f) q);
    same_choices = λ x. refl;
    same_value = refl;
  };
}
