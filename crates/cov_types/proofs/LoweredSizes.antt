-- The size that is counted on a specification is that of the formula that it is lowered to.
use Rattle.std.proofs.Common.{◌≡◌, ℕ, ◌<◌, ◌≤◌, Bool, true, false, Some, None, min, nat_lt, ap, ◌∙◌, refl, arith}
use mathlib.Core.Path.{fun_ext}
use Rattle.cov_syntax.specs.declared.tree.Op1.{Op1}
use Rattle.cov_syntax.specs.declared.tree.Op1.TheVariants as op1
use Rattle.cov_syntax.specs.declared.tree.Op2.{Op2}
use Rattle.cov_syntax.specs.declared.tree.Op2.TheVariants as op2
use Rattle.cov_syntax.specs.declared.tree.Expr.{Expr}
use Rattle.cov_syntax.specs.declared.tree.Node.TheOpen.{Node-F}
use Rattle.cov_syntax.specs.declared.tree.Node.TheFolds.{fold-Expr}
use Rattle.cov_ctl.specs.Lowered.{lowered}
use Rattle.cov_ctl.specs.Sizes.{size}
use Rattle.cov_ctl.specs.Written as ctl
use Rattle.cov_ctl.proofs.SizeLemmas.{counted}
use Rattle.cov_model.specs.Written as own
use Rattle.cov_model.specs.Walk.{fault_if}
use Rattle.cov_model.specs.Written.{Written, formula_fault, formula_size}

one_same : (op : Op1) (a : Written) → own.written_one op a ≡ ctl.written_one op a
one_same op1.Not a = refl
one_same op1.Neg a = refl
one_same op1.Next a = refl
one_same op1.Ex a = refl
one_same op1.Ef a = refl
one_same op1.Eg a = refl
one_same op1.Ax a = refl
one_same op1.Af a = refl
one_same op1.Ag a = refl

two_same : (op : Op2) (a b : Written) → own.written_two op a b ≡ ctl.written_two op a b
two_same op2.And a b = refl
two_same op2.Or a b = refl
two_same op2.Xor a b = refl
two_same op2.Implies a b = refl
two_same op2.Iff a b = refl
two_same op2.Eq a b = refl
two_same op2.Ne a b = refl
two_same op2.Lt a b = refl
two_same op2.Le a b = refl
two_same op2.Gt a b = refl
two_same op2.Ge a b = refl
two_same op2.Add a b = refl
two_same op2.Sub a b = refl
two_same op2.Mul a b = refl
two_same op2.Div a b = refl
two_same op2.Mod a b = refl
two_same op2.Union a b = refl
two_same op2.Member a b = refl
two_same op2.Au a b = refl
two_same op2.Eu a b = refl

layer_same : (l : Node-F Written Written Written) → own.written_layer l ≡ ctl.written_layer l
layer_same (Node-F.Lit x) = refl
layer_same (Node-F.Path p) = refl
layer_same (Node-F.Var i) = refl
layer_same (Node-F.Def i) = refl
layer_same (Node-F.One op a) = one_same op a
layer_same (Node-F.Two op a b) = two_same op a b
layer_same (Node-F.Range low high) = refl
layer_same (Node-F.Set es) = refl
layer_same (Node-F.Case bs) = refl

-- the size of a specification's formula is that of the formula that it is lowered to
pub lowered_formula : (e : Expr) → formula_size e ≡ size (lowered e)
lowered_formula e =
    ap (λ (layer : Node-F Written Written Written → Written). (fold-Expr Written Written Written layer own.written_branch own.written_expr e).1) (fun_ext layer_same)
    ∙ (counted e).nodes

is_above : (k n : ℕ) → k < n → nat_lt k n ≡ true
is_above k n h = grind arith

is_not_above : (k n : ℕ) → n ≤ k → nat_lt k n ≡ false
is_not_above k n h = grind arith

-- a count up to the limit tells a formula that is too large
pub large : (e : Expr) (r : ℕ) → r ≡ min (size (lowered e)) 4097 → 4096 < r → formula_fault e ≡ Some (record { code = 23; place = e.place })
large e r is l = ap (λ (b : Bool). fault_if b 23 e.place) (is_above 4096 (formula_size e) (omega (arith, is, l, lowered_formula e)))

-- and one that is not
pub small : (e : Expr) (r : ℕ) → r ≡ min (size (lowered e)) 4097 → r ≤ 4096 → formula_fault e ≡ None
small e r is l = ap (λ (b : Bool). fault_if b 23 e.place) (is_not_above 4096 (formula_size e) (omega (arith, is, l, lowered_formula e)))
