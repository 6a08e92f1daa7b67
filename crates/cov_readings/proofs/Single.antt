-- An expression that has no fault where no set may stand is no set.
use Rattle.std.proofs.Common.{◌≡◌, ◌≢◌, ℕ, zero, suc, Bool, true, false, ◌||◌, IsFalse, List, [], ◌∷◌, map, Some, None, refl, subst, ◌∙◌}
use Rattle.std.specs.Prelude.{slice_get}
use Rattle.std.specs.List.{list_any}
use Rattle.cov_syntax.specs.declared.tree.Span.{Span}
use Rattle.cov_syntax.specs.declared.tree.Op1.{Op1}
use Rattle.cov_syntax.specs.declared.tree.Op1.TheVariants as op1
use Rattle.cov_syntax.specs.declared.tree.Op2.{Op2}
use Rattle.cov_syntax.specs.declared.tree.Op2.TheVariants as op2
use Rattle.cov_syntax.specs.declared.tree.Expr.{Expr}
use Rattle.cov_syntax.specs.declared.tree.Branch.{Branch}
use Rattle.cov_syntax.specs.declared.tree.Node.{Node, roll-Node, out-Node}
use Rattle.cov_syntax.specs.declared.tree.Node.TheOpen.{Node-F}
use Rattle.cov_syntax.specs.declared.tree.Node.TheFolds.{map-Node, fold-Node, fold-Branch}
use Rattle.cov_model.specs.Kinds.{Kinds}
use Rattle.cov_model.specs.Walk as walk
use Rattle.cov_model.specs.Walk.{May, Judged, put, judged, plain_may, part_may, may_of_one, may_of_left, may_of_right}
use Rattle.cov_model.proofs.Closed.{judged_layer, judged_step}
use Rattle.cov_order.proofs.ByParts.{Layer, EachArm, EachPart, by_parts, fold_step, fold_branch}
use Rattle.cov_ranges.specs.Ranges.{is_set_layer, is_set}
use Rattle.cov_ranges.proofs.PartFaults.{IsFaultless}
use Rattle.cov_readings.proofs.Placed.{at_top, ArmsPlaced, operand_placed, operands_placed, arms_placed, range_may, union_may, set_may}

-- whether there is a set in the node, and in the branch's body
abbrev set_node : Node → Bool
set_node = fold-Node Bool Bool Bool is_set_layer (λ b. b.body) (λ e. e.node)

abbrev pub set_branch : Branch → Bool
set_branch = fold-Branch Bool Bool Bool is_set_layer (λ b. b.body) (λ e. e.node)

abbrev pub layer_set : Layer → Bool
layer_set l = is_set_layer (map-Node Node Branch Expr Bool Bool Bool set_node set_branch is_set l)

pub is_set_step : (place : Span) (l : Layer) → is_set (put place (roll-Node l)) ≡ layer_set l
is_set_step place l = fold_step Bool Bool Bool is_set_layer (λ b. b.body) (λ e. e.node) place l

pub set_body : (b : Branch) → set_branch b ≡ is_set b.body
set_body b = fold_branch Bool Bool Bool is_set_layer (λ b. b.body) (λ e. e.node) b

or_none : (a b : Bool) → IsFalse a → IsFalse b → IsFalse (a || b)
or_none true b h g = cc
or_none false b h g = g

module _ (ks : Kinds) where
  abbrev R : Expr → Type 0
  R e = (may : May) → IsFalse may.set → (judged ks e).fault may ≡ None → IsFalse (is_set e)

  arms : (bs : List Branch) (may : May) → EachArm R bs → IsFalse may.set → ArmsPlaced ks may bs → IsFalse (list_any (λ b. b) (map set_branch bs))
  arms [] may r u f = refl
  arms (b ∷ bs) may r u f = or_none (set_branch b) (list_any (λ b. b) (map set_branch bs)) (set_body b ∙ r.1 (part_may may) u f.1) (arms bs may r.2 u f.2)

  two : (place : Span) (op : Op2) (a b : Judged) (x y : Bool) (may : May) → IsFalse may.set → (walk.of_node ks (Node-F.Two op a b) place).fault may ≡ None → IsFalse (is_set_layer (Node-F.Two op x y))
  two place op2.Union a b x y may u f = let h = union_may ks place a b may f in cc
  two place op a b x y may u f = refl

  at : (place : Span) (l : Layer) (may : May) → EachPart R l → IsFalse may.set → (walk.of_node ks (judged_layer ks l) place).fault may ≡ None → IsFalse (layer_set l)
  at place (Node-F.Two op a b) may r u f = two place op (judged ks a) (judged ks b) (is_set a) (is_set b) may u f
  at place (Node-F.Range low high) may r u f = let h = range_may ks place low high may f in cc
  at place (Node-F.Set es) may r u f = let h = set_may ks place (map (judged ks) es) may f in cc
  at place (Node-F.Case bs) may r u f = arms bs may r u (arms_placed ks place bs may f)
  at place _ may r u f = refl

  -- where no set may stand
  pub no_set : (e : Expr) → R e
  no_set = by_parts R (λ place l r may u f. is_set_step place l ∙ at place l may r u (subst (λ (j : Judged). j.fault may ≡ None) (judged_step ks place l) f))

  -- ---- operands and guards

  operand_may : (op : Op1) (may : May) → IsFalse (may_of_one op may).set
  operand_may op1.Neg may = refl
  operand_may op1.Next may = refl
  operand_may _ may = refl

  left_may : (op : Op2) (may : May) → op ≢ op2.Union → IsFalse (may_of_left op may).set
  left_may op2.Union may n = absurd (n refl)
  left_may op2.And may n = refl
  left_may op2.Or may n = refl
  left_may op2.Xor may n = refl
  left_may op2.Implies may n = refl
  left_may op2.Iff may n = refl
  left_may op2.Au may n = refl
  left_may op2.Eu may n = refl
  left_may _ may n = refl

  right_may : (op : Op2) (may : May) → op ≢ op2.Union → op ≢ op2.Member → IsFalse (may_of_right op may).set
  right_may op2.Member may n k = absurd (k refl)
  right_may op may n k = left_may op may n

  pub operand_single : (e a : Expr) (op : Op1) → IsFaultless ks e → out-Node e.node ≡ Node-F.One op a → IsFalse (is_set a)
  operand_single e a op f h = no_set a (may_of_one op f.may) (operand_may op f.may) (operand_placed ks e.place op a f.may (at_top ks e (Node-F.One op a) f.may h f.none))

  pub left_single : (e a b : Expr) (op : Op2) → IsFaultless ks e → out-Node e.node ≡ Node-F.Two op a b → op ≢ op2.Union → IsFalse (is_set a)
  left_single e a b op f h n = no_set a (may_of_left op f.may) (left_may op f.may n) (operands_placed ks e.place op a b f.may (at_top ks e (Node-F.Two op a b) f.may h f.none)).0

  pub right_single : (e a b : Expr) (op : Op2) → IsFaultless ks e → out-Node e.node ≡ Node-F.Two op a b → op ≢ op2.Union → op ≢ op2.Member → IsFalse (is_set b)
  right_single e a b op f h n k = no_set b (may_of_right op f.may) (right_may op f.may n k) (operands_placed ks e.place op a b f.may (at_top ks e (Node-F.Two op a b) f.may h f.none)).1

  guard_single : (may : May) (bs : List Branch) (i : ℕ) (b : Branch) → ArmsPlaced ks may bs → slice_get bs i ≡ Some b → IsFalse (is_set b.guard)
  guard_single may [] i b f g = cc
  guard_single may (c ∷ cs) zero b f g = let k : c ≡ b = cc in subst (λ (z : Branch). IsFalse (is_set z.guard)) k (no_set c.guard (plain_may may) refl f.0)
  guard_single may (c ∷ cs) (suc i) b f g = guard_single may cs i b f.2 g

  pub guards_single : (e : Expr) (bs : List Branch) (i : ℕ) (b : Branch) → IsFaultless ks e → out-Node e.node ≡ Node-F.Case bs → slice_get bs i ≡ Some b → IsFalse (is_set b.guard)
  guards_single e bs i b f h g = guard_single f.may bs i b (arms_placed ks e.place bs f.may (at_top ks e (Node-F.Case bs) f.may h f.none)) g
