-- A part of an expression is no deeper than the whole, so the expressions of a model can be read.
use Rattle.std.proofs.Common.{◌≡◌, ◌≤◌, ℕ, ◌+◌, max, inl, inr, IsTrue, Some, map, sym, ap, ◌∙◌, arith}
use Rattle.std.specs.Prelude.{slice_get}
use Rattle.cov_syntax.specs.declared.tree.Expr.{Expr}
use Rattle.cov_syntax.specs.declared.tree.Branch.{Branch}
use Rattle.cov_syntax.specs.declared.tree.Node.{Node, roll-Node, out-Node, roll-out-Node}
use Rattle.cov_syntax.specs.declared.tree.Node.TheOpen.{Node-F}
use Rattle.cov_syntax.specs.declared.tree.Node.TheFolds.{map-Node, fold-Node, fold-Branch}
use Rattle.cov_model.specs.declared.model.Model.{Model}
use Rattle.cov_model.specs.Atoms.{StandsIn, whole, operand, left, right, member, guard, body, expressions, is_constant}
use Rattle.cov_model.specs.Flat.{greatest, depth, depth_layer}
use Rattle.cov_model.specs.Walk.{put}
use Rattle.cov_order.proofs.ByParts.{Layer, fold_step, fold_branch}
use Rattle.cov_ranges.specs.Ranges.{IsExpressionOf}
use Rattle.cov_types.specs.Roots.{greatest_depth}
use Rattle.cov_readings.proofs.Greatest.{at_most}
use Rattle.cov_conditions.specs.Conditions.{IsRead}

-- ---- depths by the top node

abbrev branch_depth : Branch → ℕ
branch_depth = fold-Branch ℕ ℕ ℕ depth_layer (λ b. max b.guard b.body) (λ e. e.node)

abbrev depths : Layer → Node-F ℕ ℕ ℕ
depths l = map-Node Node Branch Expr ℕ ℕ ℕ (fold-Node ℕ ℕ ℕ depth_layer (λ b. max b.guard b.body) (λ e. e.node)) branch_depth depth l

at_top : (e : Expr) (l : Layer) → out-Node e.node ≡ l → depth e ≡ depth_layer (depths l)
at_top e l h =
    ap (λ (m : Node). depth (put e.place m)) (sym (roll-out-Node e.node) ∙ ap roll-Node h)
    ∙ fold_step ℕ ℕ ℕ depth_layer (λ b. max b.guard b.body) (λ e. e.node) e.place l

at_branch : (b : Branch) → branch_depth b ≡ max (depth b.guard) (depth b.body)
at_branch b = fold_branch ℕ ℕ ℕ depth_layer (λ b. max b.guard b.body) (λ e. e.node) b

same_most : (n : ℕ) → n ≤ n
same_most n = omega arith

one_below : (x n k : ℕ) → x ≤ n → k ≡ 1 + n → x ≤ k
one_below x n k h e = omega arith

left_below : (x n l k : ℕ) → x ≤ n → k ≡ 1 + max n l → x ≤ k
left_below x n l k h e = omega arith

right_below : (x n l k : ℕ) → x ≤ l → k ≡ 1 + max n l → x ≤ k
right_below x n l k h e = omega arith

item_below : (x n l k : ℕ) → x ≤ n → n ≤ l → k ≡ 1 + l → x ≤ k
item_below x n l k h g e = omega arith

left_arm : (x n l k : ℕ) → x ≤ n → k ≡ max n l → x ≤ k
left_arm x n l k h e = omega arith

right_arm : (x n l k : ℕ) → x ≤ l → k ≡ max n l → x ≤ k
right_arm x n l k h e = omega arith

-- ---- parts

pub part_within : (x e : Expr) → StandsIn x e → depth x ≤ depth e
part_within x _ whole = same_most (depth x)
part_within x _ (operand e a op h p) = one_below (depth x) (depth a) (depth e) (part_within x a p) (at_top e (Node-F.One op a) h)
part_within x _ (left e a b op h p) = left_below (depth x) (depth a) (depth b) (depth e) (part_within x a p) (at_top e (Node-F.Two op a b) h)
part_within x _ (right e a b op h p) = right_below (depth x) (depth a) (depth b) (depth e) (part_within x b p) (at_top e (Node-F.Two op a b) h)
part_within x _ (member e a es i h g p) = item_below (depth x) (depth a) (greatest (map depth es)) (depth e) (part_within x a p) (at_most depth es i a g) (at_top e (Node-F.Set es) h)
part_within x _ (guard e b bs i h g p) =
    item_below (depth x) (branch_depth b) (greatest (map branch_depth bs)) (depth e)
    (left_arm (depth x) (depth b.guard) (depth b.body) (branch_depth b) (part_within x b.guard p) (at_branch b))
    (at_most branch_depth bs i b g) (at_top e (Node-F.Case bs) h)
part_within x _ (body e b bs i h g p) =
    item_below (depth x) (branch_depth b) (greatest (map branch_depth bs)) (depth e)
    (right_arm (depth x) (depth b.guard) (depth b.body) (branch_depth b) (part_within x b.body p) (at_branch b))
    (at_most branch_depth bs i b g) (at_top e (Node-F.Case bs) h)

-- ---- expressions of a model

one_within : (n k : ℕ) → n ≡ 1 → n ≤ k + 1
one_within n k e = omega arith

twice_within : (n k l : ℕ) → n ≤ k → k ≤ l → n ≤ l + 1
twice_within n k l h g = omega arith

-- what stands in a model, or is a constant, can be read
pub can_be_read : (m : Model) (e : Expr)
    → ((i : ℕ) (f : Expr) → slice_get (expressions m) i ≡ Some f → depth f ≤ greatest_depth m)
    → ((f : Expr) → IsTrue (is_constant f) → depth f ≡ 1)
    → IsExpressionOf m e → IsRead m e
can_be_read m e listed constant (inl c) = record { stands = inl c; shallow = one_within (depth e) (greatest_depth m) (constant e c) }
can_be_read m e listed constant (inr s) = record {
  stands = inr s;
  shallow = twice_within (depth e) (depth s.whole) (greatest_depth m) (part_within e s.whole s.stands) (listed s.place s.whole s.there);
}
