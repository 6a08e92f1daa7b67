-- The number of values of an expression and of its parts, and the depth of the literals.
use Rattle.std.proofs.Common.{◌≡◌, ◌≤◌, ℕ, zero, suc, ℤ, pos, ◌+ℤ◌, max, inl, inr, IsTrue, map, length, refl, sym, ap, subst, ◌∙◌, arith}
use Rattle.cov_syntax.specs.declared.tree.Span.{Span}
use Rattle.cov_syntax.specs.declared.tree.Value.TheVariants as v
use Rattle.cov_syntax.specs.declared.tree.Expr.{Expr}
use Rattle.cov_syntax.specs.declared.tree.Node.{roll-Node, out-Node, out-roll-Node, roll-out-Node}
use Rattle.cov_syntax.specs.declared.tree.Node.TheOpen.{Node-F}
use Rattle.cov_model.specs.declared.model.Model.{Model}
use Rattle.cov_model.specs.Atoms.{StandsIn, whole, operand, left, right, member, guard, body, is_constant, is_constant_layer}
use Rattle.cov_model.specs.Flat.{greatest, depth, depth_layer}
use Rattle.cov_model.specs.Flat as flat
use Rattle.cov_model.specs.Kinds.{Kind, boolean, interval, among, Kinds, integers, count, values_of, width}
use Rattle.cov_model.specs.Settled.{kinds_of}
use Rattle.cov_model.specs.Walk as walk
use Rattle.cov_model.specs.Walk.{Judged, put, own}
use Rattle.cov_model.proofs.Closed.{judged_layer, judged_step, by_top}
use Rattle.cov_order.proofs.ByParts.{Layer, fold_step}
use Rattle.cov_ranges.specs.Ranges.{IsExpressionOf, range_of}
use Rattle.cov_types.specs.Roots.{greatest_width, widest_variable}
use Rattle.cov_walk.specs.Wide.{widest_member, widest_branch, widest_arm}
use Rattle.cov_walk.specs.Widest.{widest}
use Rattle.cov_walk.proofs.WidestLemmas.{below, widest_at}
use Rattle.cov_readings.proofs.Greatest.{at_most, within_most}

-- ---- values

integers_length : (n : ℕ) (low : ℤ) → length (integers low n) ≡ n
integers_length zero low = refl
integers_length (suc n) low = ap suc (integers_length n (low +ℤ pos 1))

values_length : (k : Kind) → length (values_of k) ≡ width k
values_length boolean = refl
values_length (interval low high) = integers_length (count low high) low
values_length (among xs) = refl

top_within : (n k l : ℕ) → max n k ≡ l → n ≤ l
top_within n k l h = omega arith

left_within : (x n k top all : ℕ) → x ≤ n → max top (max n k) ≡ all → x ≤ all
left_within x n k top all h g = omega arith

right_within : (x n k top all : ℕ) → x ≤ k → max top (max n k) ≡ all → x ≤ all
right_within x n k top all h g = omega arith

below_within : (x n below top all : ℕ) → x ≤ n → n ≤ below → max top below ≡ all → x ≤ all
below_within x n below top all h g k = omega arith

left_side : (x n k : ℕ) → x ≤ n → x ≤ max n k
left_side x n k h = omega arith

right_side : (x n k : ℕ) → x ≤ k → x ≤ max n k
right_side x n k h = omega arith

same_most : (n : ℕ) → n ≤ n
same_most n = omega arith

module _ (ks : Kinds) where
  at_top : (e : Expr) (l : Layer) → out-Node e.node ≡ l → max (width (own ks e)) (below ks l) ≡ widest ks e
  at_top e l h = widest_at ks e l (sym (roll-out-Node e.node) ∙ ap roll-Node h)

  -- a part is no wider than the whole
  part_within : (x e : Expr) → StandsIn x e → widest ks x ≤ widest ks e
  part_within x _ whole = same_most (widest ks x)
  part_within x _ (operand e a op h p) = below_within (widest ks x) (widest ks a) (widest ks a) (width (own ks e)) (widest ks e) (part_within x a p) (same_most (widest ks a)) (at_top e (Node-F.One op a) h)
  part_within x _ (left e a b op h p) = left_within (widest ks x) (widest ks a) (widest ks b) (width (own ks e)) (widest ks e) (part_within x a p) (at_top e (Node-F.Two op a b) h)
  part_within x _ (right e a b op h p) = right_within (widest ks x) (widest ks a) (widest ks b) (width (own ks e)) (widest ks e) (part_within x b p) (at_top e (Node-F.Two op a b) h)
  part_within x _ (member e a es i h g p) = below_within (widest ks x) (widest ks a) (widest_member ks es) (width (own ks e)) (widest ks e) (part_within x a p) (at_most (widest ks) es i a g) (at_top e (Node-F.Set es) h)
  part_within x _ (guard e b bs i h g p) =
      let side = left_side (widest ks x) (widest ks b.guard) (widest ks b.body) (part_within x b.guard p) in
      below_within (widest ks x) (widest_branch ks b) (widest_arm ks bs) (width (own ks e)) (widest ks e) side (at_most (widest_branch ks) bs i b g) (at_top e (Node-F.Case bs) h)
  part_within x _ (body e b bs i h g p) =
      let side = right_side (widest ks x) (widest ks b.guard) (widest ks b.body) (part_within x b.body p) in
      below_within (widest ks x) (widest_branch ks b) (widest_arm ks bs) (width (own ks e)) (widest ks e) side (at_most (widest_branch ks) bs i b g) (at_top e (Node-F.Case bs) h)

  own_within : (e : Expr) → width (own ks e) ≤ widest ks e
  own_within e = top_within (width (own ks e)) (below ks (out-Node e.node)) (widest ks e) (at_top e (out-Node e.node) refl)

-- ---- the literals TRUE and FALSE

constant_top : (ks : Kinds) (place : Span) (l : Layer) → IsTrue (is_constant_layer l) → (walk.of_node ks (judged_layer ks l) place).own ≡ boolean
constant_top ks place (Node-F.Lit (v.Bool b)) h = refl
constant_top ks place _ h = cc

constant_own : (ks : Kinds) (e : Expr) → IsTrue (is_constant e) → own ks e ≡ boolean
constant_own ks e = by_top (λ f. IsTrue (is_constant f) → own ks f ≡ boolean)
    (λ place l h. ap (λ (j : Judged). j.own) (judged_step ks place l) ∙ constant_top ks place l (subst (λ (k : Layer). IsTrue (is_constant_layer k)) (out-roll-Node l) h)) e

constant_layer : (place : Span) (l : Layer) → IsTrue (is_constant_layer l) → depth (put place (roll-Node l)) ≡ 1
constant_layer place (Node-F.Lit (v.Bool b)) h = fold_step ℕ ℕ ℕ depth_layer (λ b. max b.guard b.body) (λ e. e.node) place (Node-F.Lit (v.Bool b))
constant_layer place _ h = cc

-- their depth is 1
pub constant_depth : (e : Expr) → IsTrue (is_constant e) → depth e ≡ 1
constant_depth = by_top (λ f. IsTrue (is_constant f) → depth f ≡ 1)
    (λ place l h. constant_layer place l (subst (λ (k : Layer). IsTrue (is_constant_layer k)) (out-roll-Node l) h))

-- ---- expressions of a model

within_widest : (own part all vars : ℕ) → own ≤ part → part ≤ all → own ≤ max (max vars all) 2
within_widest own part all vars h g = omega arith

within_two : (n : ℕ) → 2 ≤ max n 2
within_two n = omega arith

pub narrow : (m : Model) (e : Expr) → IsExpressionOf m e → length (range_of m e) ≤ greatest_width m
narrow m e (inl c) = subst (λ (k : Kind). length (values_of k) ≤ greatest_width m) (sym (constant_own (kinds_of m) e c)) (within_two (max (widest_variable m.vars) (greatest (map (widest (kinds_of m)) (flat.expressions m)))))
narrow m e (inr s) =
    let ks : Kinds = kinds_of m in
    subst (λ (n : ℕ). n ≤ greatest_width m) (sym (values_length (own ks e)))
    (within_widest (width (own ks e)) (widest ks s.whole) (greatest (map (widest ks) (flat.expressions m))) (widest_variable m.vars)
    (omega (arith, own_within ks e, part_within ks e s.whole s.stands))
    (within_most (widest ks) m s.place s.whole s.there))
