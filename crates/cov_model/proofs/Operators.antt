-- The claims for operators.
use Rattle.std.proofs.Common.{◌≡◌, ◌≤ℤ◌, ℕ, ℤ, pos, ◌+ℤ◌, ◌-ℤ◌, ◌*ℤ◌, neg_ℤ, int_div, int_lt, int_le, Bool, true, false, not, ◌&&◌, ◌||◌, if◌then◌else◌, IsTrue, IsFalse, List, [], ◌∷◌, ◌++◌, map, Option, Some, None, refl, sym, ap, subst, ◌∙◌, arith}
use Rattle.std.specs.Prelude.{nat_lt, negsuc}
use Rattle.std.specs.Ordering.{int_eq}
use Rattle.std.proofs.lemmas.Int.{ints}
use Rattle.cov_syntax.specs.declared.tree.Span.{Span}
use Rattle.cov_syntax.specs.declared.fault.ModelFault.{ModelFault}
use Rattle.cov_syntax.specs.declared.tree.Value.{Value}
use Rattle.cov_syntax.specs.declared.tree.Value.TheVariants as v
use Rattle.cov_syntax.specs.declared.tree.Op1.{Op1}
use Rattle.cov_syntax.specs.declared.tree.Op1.TheVariants as op1
use Rattle.cov_syntax.specs.declared.tree.Op2.{Op2}
use Rattle.cov_syntax.specs.declared.tree.Op2.TheVariants as op2
use Rattle.cov_syntax.specs.declared.tree.Expr.{Expr, roll-Expr}
use Rattle.cov_syntax.specs.declared.tree.Node.{Node, roll-Node, out-Node, out-roll-Node}
use Rattle.cov_syntax.specs.declared.tree.Node.TheVariants as n
use Rattle.cov_syntax.specs.declared.tree.Node.TheOpen.{Node-F}
use Rattle.cov_model.specs.Values.{truth as truth_of, number as number_of, same_truth, same_value, within, operated, remainder, whole, machine}
use Rattle.cov_model.specs.Meaning as meaning
use Rattle.cov_model.specs.Meaning.{Point, Meaning, single, choices, moved, prefixed, joined, variable, define}
use Rattle.cov_model.specs.Kinds.{Kind, boolean, interval, among, is_boolean, is_number, Kinds, of_kind, kind_at, width, own_of_one, own_of_two, member, is_truth}
use Rattle.cov_model.specs.Walk.{first, fault_if, is_wide, May, Asks, truth, number, kind_fits, Judged, put, kind_fault, asks_truth, simple, bit, judged_bit, judged_literal, of_node, asked_of_one, asked_of_two, may_of_one, may_of_left, may_of_right, plain_may, nothing_may, tests_of_one, tests_of_two, judged_two, is_temporal_one, is_temporal_two, temporal_place, next_place, divisor_may_be_zero, divides, has_zero, settled_two, range_too_wide, bad_type, set_place}
use Rattle.cov_model.specs.Laws.{ReadsKinds, kind_in, Keeps}
use Rattle.cov_model.proofs.Tied.{Tied, first_none, no_fault, no_misfit, no_misfit_truth, fits_where, is_boolean-eq, kind_in_simple, single_keeps, Layer, injected}
use Rattle.cov_model.proofs.Tied.{first_none_right}
use Rattle.cov_model.proofs.Joins.{same_value-eq, machine-small}
use Rattle.cov_model.proofs.Kept.{bounds, within_bounds, sum_kept, difference_kept, product_kept, quotient_kept, remainder_kept, opposite_kept}

-- the wide kinds are refused
not_wide : (xs : List (Option ModelFault)) (k : Kind) (place : Span) → first (xs ++ fault_if (is_wide k) range_too_wide place ∷ []) ≡ None → is_wide k ≡ false
not_wide xs k place f =
    no_fault (is_wide k) range_too_wide place (first_none (fault_if (is_wide k) range_too_wide place) [] (first_none_right xs (fault_if (is_wide k) range_too_wide place ∷ []) f)).0

narrow : (a b x : ℤ) → is_wide (interval a b) ≡ false → IsTrue (within a b (v.Int x)) → IsTrue (within (negsuc 999999) (pos 1000000) (v.Int x))
narrow a b x h g = let r = bounds a b x g in within_bounds (negsuc 999999) (pos 1000000) x (by_low (int_lt a (negsuc 999999)) refl h r.0) (by_high (int_lt a (negsuc 999999)) (int_lt (pos 1000000) b) refl h r.1)
  where
    by_low : (c : Bool) → int_lt a (negsuc 999999) ≡ c → (c || int_lt (pos 1000000) b || nat_lt 1024 (width (interval a b))) ≡ false → a ≤ℤ x → negsuc 999999 ≤ℤ x
    by_low true e h l = cc
    by_low false e h l = omega (arith, ints)

    by_high : (c d : Bool) → int_lt (pos 1000000) b ≡ d → (c || d || nat_lt 1024 (width (interval a b))) ≡ false → x ≤ℤ b → x ≤ℤ pos 1000000
    by_high true d e h l = cc
    by_high false true e h l = cc
    by_high false false e h l = omega (arith, ints)

-- a number of a kind that is not too wide is the machine's
machine_of : (k : Kind) (x : ℤ) → IsTrue (is_number k) → is_wide k ≡ false → IsTrue (of_kind k (v.Int x)) → machine x ≡ x
machine_of boolean x g h o = cc
machine_of (interval a b) x g h o = machine-small x (narrow a b x h o)
machine_of (among xs) x g h o = cc

module _ (ks : Kinds) (place : Span) (m : Node) (l : Layer) (tests : May → List (Option ModelFault)) (sett : Node) (t : put place m ≡ put place (roll-Node l)) where
  pub boolean_node : (f g : Point → Bool)
      → ((may : May) (p : Point) → first (tests may ++ fault_if false range_too_wide place ∷ []) ≡ None → put place sett ≡ put place (roll-Node l)
      → ReadsKinds ks p.present → ReadsKinds ks p.next → g p ≡ f p)
      → Tied ks (simple place m boolean tests sett) (single (λ p. v.Bool (f p))) (single (λ p. v.Bool (g p))) (put place (roll-Node l))
  boolean_node f g h = record {
    tree = t;
    is_numeric = λ may e s q. cc;
    keeps = λ may b p e mis s r r'. single_keeps (kind_in b boolean) may (λ p. v.Bool (f p)) (λ p. v.Bool (g p)) p (by b (f p)) (ap (λ (c : Bool). v.Bool c) (h may p e s r r'));
  }
    where
      by : (b : Bool) (c : Bool) → IsTrue (of_kind (kind_in b boolean) (v.Bool c))
      by true c = refl
      by false c = refl

  pub number_node : (k : Kind) (f h : Point → ℤ) → IsTrue (is_number k)
      → ((may : May) (p : Point) → first (tests may ++ fault_if (is_wide k) range_too_wide place ∷ []) ≡ None → put place sett ≡ put place (roll-Node l)
      → ReadsKinds ks p.present → ReadsKinds ks p.next → IsTrue (of_kind k (v.Int (f p))) × (h p ≡ f p))
      → Tied ks (simple place m k tests sett) (single (λ p. v.Int (f p))) (single (λ p. v.Int (machine (h p)))) (put place (roll-Node l))
  number_node k f h g q = record {
    tree = t;
    is_numeric = λ may e s w. g;
    keeps = λ may b p e mis s r r'. let c = q may p e s r r' in
        single_keeps (kind_in b k) may (λ p. v.Int (f p)) (λ p. v.Int (machine (h p))) p
        (subst (λ (z : Kind). IsTrue (of_kind z (v.Int (f p)))) (sym (kind_in_simple b k place mis)) c.0)
        (ap (λ (i : ℤ). v.Int i) (ap machine c.1 ∙ machine_of k (f p) g (not_wide (tests may) k place e) c.0));
  }

-- ---- one operand

module _ (ks : Kinds) (place : Span) (op : Op1) (j : Judged) (w m : Meaning) (e : Expr) (a : Tied ks j w m e) where
  tree_one : put place (n.One op j.tree) ≡ put place (roll-Node (Node-F.One op e))
  tree_one = ap (λ (z : Expr). put place (n.One op z)) a.tree ∙ ap (put place) (sym (n.rolls-One op e))

  settled_one : (b : Bool) → put place (n.One op (j.settled b)) ≡ put place (roll-Node (Node-F.One op e)) → j.settled b ≡ e
  settled_one b s = let q : Node-F.One op (j.settled b) ≡ Node-F.One op e = injected (n.One op (j.settled b)) (Node-F.One op (j.settled b)) (Node-F.One op e) place (n.rolls-One op (j.settled b)) s in cc

  -- what the operand keeps, where the tests of the operator find nothing
  operand : (may : May) (within : May) (p : Point) (asked : Option Asks) (temporal : Bool) (k : Kind)
      → first (j.fault within ∷ fault_if temporal temporal_place place ∷ kind_fault asked j ∷ fault_if (is_wide k) range_too_wide place ∷ []) ≡ None
      → put place (n.One op (j.settled (asks_truth asked))) ≡ put place (roll-Node (Node-F.One op e))
      → ReadsKinds ks p.present → ReadsKinds ks p.next
      → Keeps (kind_in (asks_truth asked) j.own) within w m p × (kind_fault asked j ≡ None) × (j.fault within ≡ None)
  operand may within p asked temporal k f s r r' =
      let c : List (Option ModelFault) = fault_if (is_wide k) range_too_wide place ∷ [] in
      let x = first_none (j.fault within) (fault_if temporal temporal_place place ∷ kind_fault asked j ∷ c) f in
      let y = first_none (fault_if temporal temporal_place place) (kind_fault asked j ∷ c) x.1 in
      let z = first_none (kind_fault asked j) c y.1 in
      (a.keeps within (asks_truth asked) p x.0 (no_misfit_truth asked j z.0) (settled_one (asks_truth asked) s) r r', z.0, x.0)

negated_kept : (k : Kind) (x : Value) → IsTrue (is_number k) → IsTrue (of_kind k x) → IsTrue (of_kind (own_of_one op1.Neg k) (v.Int (neg_ℤ (number_of x))))
negated_kept boolean x g o = cc
negated_kept (among xs) x g o = cc
negated_kept (interval a b) (v.Bool c) g o = cc
negated_kept (interval a b) (v.Sym c) g o = cc
negated_kept (interval a b) (v.Int x) g o = opposite_kept a b a b x x o o

module _ (ks : Kinds) (place : Span) (j : Judged) (w m : Meaning) (e : Expr) (a : Tied ks j w m e) where
  temporal_node : (op : Op1) → is_temporal_one op ≡ true
      → Tied ks (simple place (n.One op j.tree) boolean (tests_of_one place op j) (n.One op (j.settled (asks_truth (asked_of_one op))))) (single (λ p. v.Bool false)) (single (λ p. v.Bool false)) (put place (roll-Node (Node-F.One op e)))
  temporal_node op t = boolean_node ks place (n.One op j.tree) (Node-F.One op e) (tests_of_one place op j) (n.One op (j.settled (asks_truth (asked_of_one op)))) (tree_one ks place op j w m e a)
      (λ p. false) (λ p. false) (λ may p f s r r'. refl)

  pub tied_one : (op : Op1)
      → Tied ks (of_node ks (Node-F.One op j) place) (meaning.of_node whole (Node-F.One op w)) (meaning.of_node machine (Node-F.One op m)) (put place (roll-Node (Node-F.One op e)))
  tied_one op1.Not = boolean_node ks place (n.One op1.Not j.tree) (Node-F.One op1.Not e) (tests_of_one place op1.Not j) (n.One op1.Not (j.settled true)) (tree_one ks place op1.Not j w m e a)
      (λ p. not (truth_of (w.value p))) (λ p. not (truth_of (m.value p)))
      (λ may p f s r r'. ap (λ (x : Value). not (truth_of x)) (operand ks place op1.Not j w m e a may (may_of_one op1.Not may) p (Some truth) (is_temporal_one op1.Not && not may.temporal) boolean f s r r').0.same_value)
  tied_one op1.Neg = number_node ks place (n.One op1.Neg j.tree) (Node-F.One op1.Neg e) (tests_of_one place op1.Neg j) (n.One op1.Neg (j.settled false)) (tree_one ks place op1.Neg j w m e a)
      (own_of_one op1.Neg j.own) (λ p. neg_ℤ (number_of (w.value p))) (λ p. neg_ℤ (number_of (m.value p))) refl
      (λ may p f s r r'.
      let c = operand ks place op1.Neg j w m e a may (may_of_one op1.Neg may) p (Some number) (is_temporal_one op1.Neg && not may.temporal) (own_of_one op1.Neg j.own) f s r r' in
      (negated_kept j.own (w.value p) (a.is_numeric (plain_may may) c.2 refl (no_misfit number j c.1)) (c.0.value_of refl), ap (λ (x : Value). neg_ℤ (number_of x)) c.0.same_value))
  tied_one op1.Next = record {
    tree = tree_one ks place op1.Next j w m e a;
    is_numeric = λ may f s q. fits_where (kind_fits number j.own) place q;
    keeps = λ may b p f t s r r'.
        let c = a.keeps nothing_may false (moved p) (first_none (j.fault nothing_may) _ f).0 (λ h. cc) (settled_one ks place op1.Next j w m e a false s) r' r' in
        single_keeps (kind_in b j.own) may (λ p. w.value (moved p)) (λ p. m.value (moved p)) p
        (subst (λ (z : Kind). IsTrue (of_kind z (w.value (moved p)))) (sym (kind_in_simple b j.own place t)) (c.value_of refl)) c.same_value;
  }
  tied_one op1.Ex = temporal_node op1.Ex refl
  tied_one op1.Ef = temporal_node op1.Ef refl
  tied_one op1.Eg = temporal_node op1.Eg refl
  tied_one op1.Ax = temporal_node op1.Ax refl
  tied_one op1.Af = temporal_node op1.Af refl
  tied_one op1.Ag = temporal_node op1.Ag refl

-- ---- two operands

-- what is known of the sides of an operator at whose node there is no fault
record Sides (op : Op2) (j k : Judged) (wj mj wk mk : Meaning) (may : May) (p : Point) : Type 0 where
  left : Keeps (kind_in (asks_truth (asked_of_two op j.own k.own)) j.own) (may_of_left op may) wj mj p
  right : Keeps (kind_in (asks_truth (asked_of_two op j.own k.own)) k.own) (may_of_right op may) wk mk p
  left_fault : j.fault (may_of_left op may) ≡ None
  right_fault : k.fault (may_of_right op may) ≡ None
  left_asked : kind_fault (asked_of_two op j.own k.own) j ≡ None
  right_asked : kind_fault (asked_of_two op j.own k.own) k ≡ None
  divisor : (divides op && has_zero k.own) ≡ false

module _ (ks : Kinds) (place : Span) (op : Op2) (j k : Judged) (wj mj wk mk : Meaning) (ej ek : Expr) (a : Tied ks j wj mj ej) (b : Tied ks k wk mk ek) where
  tree_two : put place (n.Two op j.tree k.tree) ≡ put place (roll-Node (Node-F.Two op ej ek))
  tree_two = ap (λ (z : Expr). put place (n.Two op z k.tree)) a.tree ∙ ap (λ (z : Expr). put place (n.Two op ej z)) b.tree ∙ ap (put place) (sym (n.rolls-Two op ej ek))

  settled_sides : (t : Bool) → put place (n.Two op (j.settled t) (k.settled t)) ≡ put place (roll-Node (Node-F.Two op ej ek)) → (j.settled t ≡ ej) × (k.settled t ≡ ek)
  settled_sides t s =
      let q : Node-F.Two op (j.settled t) (k.settled t) ≡ Node-F.Two op ej ek = injected (n.Two op (j.settled t) (k.settled t)) (Node-F.Two op (j.settled t) (k.settled t)) (Node-F.Two op ej ek) place (n.rolls-Two op (j.settled t) (k.settled t)) s in
      (cc, cc)

  -- what the sides keep, where the tests of the operator find nothing
  sides : (may : May) (p : Point) (own : Kind)
      → first (tests_of_two place op j k may ++ fault_if (is_wide own) range_too_wide place ∷ []) ≡ None
      → put place (settled_two op j k) ≡ put place (roll-Node (Node-F.Two op ej ek))
      → ReadsKinds ks p.present → ReadsKinds ks p.next
      → Sides op j k wj mj wk mk may p
  sides may p own f s r r' =
      let asked : Option Asks = asked_of_two op j.own k.own in
      let t : Bool = asks_truth asked in
      let zero : Option ModelFault = fault_if (divides op && has_zero k.own) divisor_may_be_zero k.tree.place in
      let wide : List (Option ModelFault) = fault_if (is_wide own) range_too_wide place ∷ [] in
      let misplaced : Option ModelFault = fault_if (is_temporal_two op && not may.temporal) temporal_place place in
      let c = first_none (j.fault (may_of_left op may)) (k.fault (may_of_right op may) ∷ misplaced ∷ kind_fault asked j ∷ kind_fault asked k ∷ zero ∷ wide) f in
      let d = first_none (k.fault (may_of_right op may)) (misplaced ∷ kind_fault asked j ∷ kind_fault asked k ∷ zero ∷ wide) c.1 in
      let e = first_none misplaced (kind_fault asked j ∷ kind_fault asked k ∷ zero ∷ wide) d.1 in
      let g = first_none (kind_fault asked j) (kind_fault asked k ∷ zero ∷ wide) e.1 in
      let h = first_none (kind_fault asked k) (zero ∷ wide) g.1 in
      let i = first_none zero wide h.1 in
      let q = settled_sides t s in
      record {
        left = a.keeps (may_of_left op may) t p c.0 (no_misfit_truth asked j g.0) q.0 r r';
        right = b.keeps (may_of_right op may) t p d.0 (no_misfit_truth asked k h.0) q.1 r r';
        left_fault = c.0;
        right_fault = d.0;
        left_asked = g.0;
        right_asked = h.0;
        divisor = no_fault (divides op && has_zero k.own) divisor_may_be_zero k.tree.place i.0;
      }

  boolean_two : (f : Value → Value → Bool)
      → Tied ks (simple place (n.Two op j.tree k.tree) boolean (tests_of_two place op j k) (settled_two op j k))
      (single (λ p. v.Bool (f (wj.value p) (wk.value p)))) (single (λ p. v.Bool (f (mj.value p) (mk.value p)))) (put place (roll-Node (Node-F.Two op ej ek)))
  boolean_two f = boolean_node ks place (n.Two op j.tree k.tree) (Node-F.Two op ej ek) (tests_of_two place op j k) (settled_two op j k) tree_two
      (λ p. f (wj.value p) (wk.value p)) (λ p. f (mj.value p) (mk.value p))
      (λ may p g s r r'. let c = sides may p boolean g s r r' in
      ap (λ (x : Value). f x (mk.value p)) c.left.same_value ∙ ap (λ (x : Value). f (wj.value p) x) c.right.same_value)

  -- an operator on numbers, whose kind has each result
  number_two : (f : ℤ → ℤ → ℤ)
      → asked_of_two op j.own k.own ≡ Some number
      → ((may : May) → IsFalse (may_of_left op may).set × IsFalse (may_of_right op may).set)
      → IsTrue (is_number (own_of_two op j.own k.own))
      → ((x y : Value) → IsTrue (is_number j.own) → IsTrue (is_number k.own) → (divides op && has_zero k.own) ≡ false → IsTrue (of_kind j.own x) → IsTrue (of_kind k.own y)
      → IsTrue (of_kind (own_of_two op j.own k.own) (v.Int (f (number_of x) (number_of y)))))
      → Tied ks (simple place (n.Two op j.tree k.tree) (own_of_two op j.own k.own) (tests_of_two place op j k) (settled_two op j k))
      (single (λ p. v.Int (f (number_of (wj.value p)) (number_of (wk.value p))))) (single (λ p. v.Int (machine (f (number_of (mj.value p)) (number_of (mk.value p)))))) (put place (roll-Node (Node-F.Two op ej ek)))
  number_two f asked unset num kept = number_node ks place (n.Two op j.tree k.tree) (Node-F.Two op ej ek) (tests_of_two place op j k) (settled_two op j k) tree_two
      (own_of_two op j.own k.own) (λ p. f (number_of (wj.value p)) (number_of (wk.value p))) (λ p. f (number_of (mj.value p)) (number_of (mk.value p))) num
      (λ may p g s r r'. let c = sides may p (own_of_two op j.own k.own) g s r r' in
      let in_number : asks_truth (asked_of_two op j.own k.own) ≡ false = ap asks_truth asked in
      let left_fits : j.misfit number ≡ None = no_misfit number j (subst (λ (z : Option Asks). kind_fault z j ≡ None) asked c.left_asked) in
      let right_fits : k.misfit number ≡ None = no_misfit number k (subst (λ (z : Option Asks). kind_fault z k ≡ None) asked c.right_asked) in (
        kept (wj.value p) (wk.value p)
            (a.is_numeric (may_of_left op may) c.left_fault (unset may).0 left_fits)
            (b.is_numeric (may_of_right op may) c.right_fault (unset may).1 right_fits)
            c.divisor
            (subst (λ (t : Bool). IsTrue (of_kind (kind_in t j.own) (wj.value p))) in_number (c.left.value_of (unset may).0))
            (subst (λ (t : Bool). IsTrue (of_kind (kind_in t k.own) (wk.value p))) in_number (c.right.value_of (unset may).1)),
        ap (λ (x : Value). f (number_of x) (number_of (mk.value p))) c.left.same_value
            ∙ ap (λ (x : Value). f (number_of (wj.value p)) (number_of x)) c.right.same_value,
      ))

-- a number of a numeric kind lies in its interval
pub record IsNumberOf (k : Kind) (x : Value) : Type 0 where
  pub low : ℤ
  pub high : ℤ
  pub kind_is : k ≡ interval low high
  pub lies : IsTrue (within low high (v.Int (number_of x)))

number_in : (k : Kind) (x : Value) → IsTrue (is_number k) → IsTrue (of_kind k x) → IsNumberOf k x
number_in boolean x g o = cc
number_in (among xs) x g o = cc
number_in (interval a b) (v.Bool c) g o = cc
number_in (interval a b) (v.Sym c) g o = cc
number_in (interval a b) (v.Int x) g o = record { low = a; high = b; kind_is = refl; lies = o }

-- what holds at the intervals of two kinds holds at the kinds
at_intervals : (op : Op2) (f : ℤ → ℤ → ℤ)
    → ((a b c d x y : ℤ) → IsTrue (within a b (v.Int x)) → IsTrue (within c d (v.Int y)) → (divides op && has_zero (interval c d)) ≡ false
    → IsTrue (of_kind (own_of_two op (interval a b) (interval c d)) (v.Int (f x y))))
    → (j k : Kind) (x y : Value) → IsTrue (is_number j) → IsTrue (is_number k) → (divides op && has_zero k) ≡ false → IsTrue (of_kind j x) → IsTrue (of_kind k y)
    → IsTrue (of_kind (own_of_two op j k) (v.Int (f (number_of x) (number_of y))))
at_intervals op f h j k x y g g' z o o' =
    let c = number_in j x g o in
    let d = number_in k y g' o' in
    subst (λ (i : Kind). IsTrue (of_kind (own_of_two op i k) (v.Int (f (number_of x) (number_of y))))) (sym c.kind_is)
    (subst (λ (i : Kind). IsTrue (of_kind (own_of_two op (interval c.low c.high) i) (v.Int (f (number_of x) (number_of y))))) (sym d.kind_is)
    (h c.low c.high d.low d.high (number_of x) (number_of y) c.lies d.lies (subst (λ (i : Kind). (divides op && has_zero i) ≡ false) d.kind_is z)))

module _ (ks : Kinds) (place : Span) (j k : Judged) (wj mj wk mk : Meaning) (ej ek : Expr) (a : Tied ks j wj mj ej) (b : Tied ks k wk mk ek) where
  boolean_of : (op : Op2) (f : Value → Value → Bool)
      → Tied ks (simple place (n.Two op j.tree k.tree) boolean (tests_of_two place op j k) (settled_two op j k))
      (single (λ p. v.Bool (f (wj.value p) (wk.value p)))) (single (λ p. v.Bool (f (mj.value p) (mk.value p)))) (put place (roll-Node (Node-F.Two op ej ek)))
  boolean_of op f = boolean_two ks place op j k wj mj wk mk ej ek a b f

  number_of_two : (op : Op2) (f : ℤ → ℤ → ℤ)
      → asked_of_two op j.own k.own ≡ Some number
      → ((may : May) → IsFalse (may_of_left op may).set × IsFalse (may_of_right op may).set)
      → IsTrue (is_number (own_of_two op j.own k.own))
      → ((a b c d x y : ℤ) → IsTrue (within a b (v.Int x)) → IsTrue (within c d (v.Int y)) → (divides op && has_zero (interval c d)) ≡ false
      → IsTrue (of_kind (own_of_two op (interval a b) (interval c d)) (v.Int (f x y))))
      → Tied ks (simple place (n.Two op j.tree k.tree) (own_of_two op j.own k.own) (tests_of_two place op j k) (settled_two op j k))
      (single (λ p. v.Int (f (number_of (wj.value p)) (number_of (wk.value p))))) (single (λ p. v.Int (machine (f (number_of (mj.value p)) (number_of (mk.value p)))))) (put place (roll-Node (Node-F.Two op ej ek)))
  number_of_two op f asked unset num h = number_two ks place op j k wj mj wk mk ej ek a b f asked unset num
      (λ x y g g' z o o'. at_intervals op f h j.own k.own x y g g' z o o')

  tied_member : Tied ks (of_node ks (Node-F.Two op2.Member j k) place) (meaning.of_node whole (Node-F.Two op2.Member wj wk)) (meaning.of_node machine (Node-F.Two op2.Member mj mk)) (put place (roll-Node (Node-F.Two op2.Member ej ek)))
  tied_member = boolean_node ks place (n.Two op2.Member j.tree k.tree) (Node-F.Two op2.Member ej ek) (tests_of_two place op2.Member j k) (settled_two op2.Member j k)
      (tree_two ks place op2.Member j k wj mj wk mk ej ek a b)
      (λ p. wk.allows p (wj.value p)) (λ p. mk.allows p (mj.value p))
      (λ may p g s r r'. let c = sides ks place op2.Member j k wj mj wk mk ej ek a b may p boolean g s r r' in
      ap (λ (x : Value). mk.allows p x) c.left.same_value ∙ c.right.same_choices (wj.value p))

  pub tied_two : (op : Op2) → (op ≡ op2.Union → ⊥)
      → Tied ks (of_node ks (Node-F.Two op j k) place) (meaning.of_node whole (Node-F.Two op wj wk)) (meaning.of_node machine (Node-F.Two op mj mk)) (put place (roll-Node (Node-F.Two op ej ek)))
  tied_two op2.And u = boolean_of op2.And (λ x y. truth_of x && truth_of y)
  tied_two op2.Or u = boolean_of op2.Or (λ x y. truth_of x || truth_of y)
  tied_two op2.Xor u = boolean_of op2.Xor (λ x y. not (same_truth (truth_of x) (truth_of y)))
  tied_two op2.Implies u = boolean_of op2.Implies (λ x y. not (truth_of x) || truth_of y)
  tied_two op2.Iff u = boolean_of op2.Iff (λ x y. same_truth (truth_of x) (truth_of y))
  tied_two op2.Eq u = boolean_of op2.Eq same_value
  tied_two op2.Ne u = boolean_of op2.Ne (λ x y. not (same_value x y))
  tied_two op2.Lt u = boolean_of op2.Lt (λ x y. int_lt (number_of x) (number_of y))
  tied_two op2.Le u = boolean_of op2.Le (λ x y. int_le (number_of x) (number_of y))
  tied_two op2.Gt u = boolean_of op2.Gt (λ x y. int_lt (number_of y) (number_of x))
  tied_two op2.Ge u = boolean_of op2.Ge (λ x y. int_le (number_of y) (number_of x))
  tied_two op2.Add u = number_of_two op2.Add (λ x y. x +ℤ y) refl (λ may. (refl, refl)) refl (λ a b c d x y p q z. sum_kept a b c d x y p q)
  tied_two op2.Sub u = number_of_two op2.Sub (λ x y. x -ℤ y) refl (λ may. (refl, refl)) refl (λ a b c d x y p q z. difference_kept a b c d x y p q)
  tied_two op2.Mul u = number_of_two op2.Mul (λ x y. x *ℤ y) refl (λ may. (refl, refl)) refl (λ a b c d x y p q z. product_kept a b c d x y p q)
  tied_two op2.Div u = number_of_two op2.Div int_div refl (λ may. (refl, refl)) refl (λ a b c d x y p q z. quotient_kept a b c d x y p q z)
  tied_two op2.Mod u = number_of_two op2.Mod remainder refl (λ may. (refl, refl)) refl (λ a b c d x y p q z. remainder_kept a b c d x y p q z)
  tied_two op2.Member u = tied_member
  tied_two op2.Au u = boolean_of op2.Au (λ x y. false)
  tied_two op2.Eu u = boolean_of op2.Eu (λ x y. false)
  tied_two op2.Union u = absurd (u refl)
