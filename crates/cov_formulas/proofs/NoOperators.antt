-- Where no CTL operator may stand and the walk finds no fault, none stands.
use Rattle.std.proofs.Common.{◌≡◌, Bool, true, false, not, ◌&&◌, ◌||◌, IsFalse, List, [], ◌∷◌, ◌++◌, map, None, refl, subst, ◌∙◌}
use Rattle.std.specs.List.{list_any}
use Rattle.cov_syntax.specs.declared.tree.Span.{Span}
use Rattle.cov_syntax.specs.declared.tree.Op1.{Op1}
use Rattle.cov_syntax.specs.declared.tree.Op1.TheVariants as op1
use Rattle.cov_syntax.specs.declared.tree.Op2.{Op2}
use Rattle.cov_syntax.specs.declared.tree.Op2.TheVariants as op2
use Rattle.cov_syntax.specs.declared.tree.Expr.{Expr}
use Rattle.cov_syntax.specs.declared.tree.Branch.{Branch}
use Rattle.cov_syntax.specs.declared.tree.Node.{Node, roll-Node}
use Rattle.cov_syntax.specs.declared.tree.Node.TheOpen.{Node-F}
use Rattle.cov_syntax.specs.declared.tree.Node.TheFolds.{map-Node}
use Rattle.cov_model.specs.Kinds.{Kinds, own_of_one, own_of_two}
use Rattle.cov_model.specs.Walk as walk
use Rattle.cov_model.specs.Walk.{fault_if, temporal_place, May, Judged, put, judged, plain_may, part_may, may_of_one, may_of_left, may_of_right, is_temporal_one, is_temporal_two, tests_of_one, tests_of_two}
use Rattle.cov_model.proofs.Tied.{no_fault}
use Rattle.cov_model.proofs.Closed.{judged_layer, judged_step}
use Rattle.cov_order.proofs.ByParts.{Layer, EachItem, EachArm, EachPart, by_parts, fold_step, fold_branch}
use Rattle.cov_ranges.proofs.PartFaults.{none_at, wide_fault}
use Rattle.cov_readings.proofs.Placed.{ItemsPlaced, ArmsPlaced, operand_placed, operands_placed, items_placed, arms_placed}
use Rattle.cov_ctl.specs.Temporal.{is_path_operator, is_until, temporal_layer, temporal_branch, temporal_expr, is_temporal, node_is_temporal, branch_is_temporal}

-- a tree is temporal by its top node
abbrev pub parts_temporal : Layer → Bool
parts_temporal l = temporal_layer (map-Node Node Branch Expr Bool Bool Bool node_is_temporal branch_is_temporal is_temporal l)

pub temporal_step : (place : Span) (l : Layer) → is_temporal (put place (roll-Node l)) ≡ parts_temporal l
temporal_step place l = fold_step Bool Bool Bool temporal_layer temporal_branch temporal_expr place l

branch_temporal : (b : Branch) → branch_is_temporal b ≡ (is_temporal b.guard || is_temporal b.body)
branch_temporal b = fold_branch Bool Bool Bool temporal_layer temporal_branch temporal_expr b

or_none : (a b : Bool) → IsFalse a → IsFalse b → IsFalse (a || b)
or_none true b h g = cc
or_none false b h g = g

-- what may not stand, and would be a fault, does not
is_none : (b may : Bool) → IsFalse may → (b && not may) ≡ false → IsFalse b
is_none false may u h = refl
is_none true true u h = cc
is_none true false u h = cc

one_may : (op : Op1) (may : May) → IsFalse may.temporal → IsFalse (may_of_one op may).temporal
one_may op1.Neg may u = refl
one_may op1.Next may u = refl
one_may _ may u = u

left_may : (op : Op2) (may : May) → IsFalse may.temporal → IsFalse (may_of_left op may).temporal
left_may op2.And may u = u
left_may op2.Or may u = u
left_may op2.Xor may u = u
left_may op2.Implies may u = u
left_may op2.Iff may u = u
left_may op2.Au may u = u
left_may op2.Eu may u = u
left_may op2.Union may u = refl
left_may _ may u = refl

right_may : (op : Op2) (may : May) → IsFalse may.temporal → IsFalse (may_of_right op may).temporal
right_may op2.Member may u = refl
right_may op may u = left_may op may u

module _ (ks : Kinds) where
  operator_one : (place : Span) (op : Op1) (a : Judged) (may : May) → IsFalse may.temporal → (walk.of_node ks (Node-F.One op a) place).fault may ≡ None → IsFalse (is_path_operator op)
  operator_one place op1.Not a may u f = refl
  operator_one place op1.Neg a may u f = refl
  operator_one place op1.Next a may u f = refl
  operator_one place op a may u f =
      is_none true may.temporal u (no_fault (true && not may.temporal) temporal_place place
      (none_at (tests_of_one place op a may ++ wide_fault (own_of_one op a.own) place) 1 (fault_if (true && not may.temporal) temporal_place place) refl f))

  operator_two : (place : Span) (op : Op2) (a b : Judged) (may : May) → IsFalse may.temporal → (walk.of_node ks (Node-F.Two op a b) place).fault may ≡ None → IsFalse (is_until op)
  operator_two place op2.Au a b may u f =
      is_none true may.temporal u (no_fault (true && not may.temporal) temporal_place place
      (none_at (tests_of_two place op2.Au a b may ++ wide_fault (own_of_two op2.Au a.own b.own) place) 2 (fault_if (true && not may.temporal) temporal_place place) refl f))
  operator_two place op2.Eu a b may u f =
      is_none true may.temporal u (no_fault (true && not may.temporal) temporal_place place
      (none_at (tests_of_two place op2.Eu a b may ++ wide_fault (own_of_two op2.Eu a.own b.own) place) 2 (fault_if (true && not may.temporal) temporal_place place) refl f))
  operator_two place _ a b may u f = refl

  abbrev R : Expr → Type 0
  R e = (may : May) → IsFalse may.temporal → (judged ks e).fault may ≡ None → IsFalse (is_temporal e)

  items : (es : List Expr) (may : May) → EachItem R es → IsFalse may.temporal → ItemsPlaced ks may es → IsFalse (list_any (λ b. b) (map is_temporal es))
  items [] may r u f = refl
  items (e ∷ es) may r u f = or_none (is_temporal e) (list_any (λ b. b) (map is_temporal es)) (r.0 may u f.0) (items es may r.1 u f.1)

  arms : (bs : List Branch) (may : May) → EachArm R bs → ArmsPlaced ks may bs → IsFalse (list_any (λ b. b) (map branch_is_temporal bs))
  arms [] may r f = refl
  arms (b ∷ bs) may r f =
      or_none (branch_is_temporal b) (list_any (λ b. b) (map branch_is_temporal bs))
      (branch_temporal b ∙ or_none (is_temporal b.guard) (is_temporal b.body) (r.0 (plain_may may) refl f.0) (r.1 (part_may may) refl f.1)) (arms bs may r.2 f.2)

  at : (place : Span) (l : Layer) (may : May) → EachPart R l → IsFalse may.temporal → (walk.of_node ks (judged_layer ks l) place).fault may ≡ None → IsFalse (parts_temporal l)
  at place (Node-F.One op a) may r u f =
      or_none (is_path_operator op) (is_temporal a) (operator_one place op (judged ks a) may u f) (r (may_of_one op may) (one_may op may u) (operand_placed ks place op a may f))
  at place (Node-F.Two op a b) may r u f =
      let placed = operands_placed ks place op a b may f in
      or_none (is_until op || is_temporal a) (is_temporal b)
      (or_none (is_until op) (is_temporal a) (operator_two place op (judged ks a) (judged ks b) may u f) (r.0 (may_of_left op may) (left_may op may u) placed.0))
      (r.1 (may_of_right op may) (right_may op may u) placed.1)
  at place (Node-F.Set es) may r u f = items es (part_may may) r refl (items_placed ks place es may f)
  at place (Node-F.Case bs) may r u f = arms bs may r (arms_placed ks place bs may f)
  at place _ may r u f = refl

  -- where no CTL operator may stand
  pub no_operator : (e : Expr) → R e
  no_operator = by_parts R (λ place l r may u f. temporal_step place l ∙ at place l may r u (subst (λ (j : Judged). j.fault may ≡ None) (judged_step ks place l) f))
