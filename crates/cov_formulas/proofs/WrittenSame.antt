-- The sizes that a model counts on its specifications are those of the formulas that they are lowered to, and so are the CTL operators.
use Rattle.std.proofs.Common.{◌≡◌, ap, ◌∙◌, refl}
use mathlib.Core.Path.{fun_ext}
use Rattle.cov_syntax.specs.declared.tree.Op1.{Op1}
use Rattle.cov_syntax.specs.declared.tree.Op1.TheVariants as op1
use Rattle.cov_syntax.specs.declared.tree.Op2.{Op2}
use Rattle.cov_syntax.specs.declared.tree.Op2.TheVariants as op2
use Rattle.cov_syntax.specs.declared.tree.Expr.{Expr}
use Rattle.cov_syntax.specs.declared.tree.Node.TheOpen.{Node-F}
use Rattle.cov_syntax.specs.declared.tree.Node.TheFolds.{fold-Expr}
use Rattle.cov_ctl.specs.Temporal.{is_temporal}
use Rattle.cov_ctl.specs.Written as ctl
use Rattle.cov_ctl.proofs.SizeLemmas.{written_temporal}
use Rattle.cov_model.specs.Written.{Written, written_one, written_two, written_layer, written_branch, written_expr, written}

one_same : (op : Op1) (a : Written) → written_one op a ≡ ctl.written_one op a
one_same op1.Not a = refl
one_same op1.Neg a = refl
one_same op1.Next a = refl
one_same _ a = refl

two_same : (op : Op2) (a b : Written) → written_two op a b ≡ ctl.written_two op a b
two_same op2.And a b = refl
two_same _ a b = refl

layer_same : (l : Node-F Written Written Written) → written_layer l ≡ ctl.written_layer l
layer_same (Node-F.One op a) = one_same op a
layer_same (Node-F.Two op a b) = two_same op a b
layer_same _ = refl

-- whether a CTL operator stands in an expression
pub written_is : (e : Expr) → (written e).0 ≡ is_temporal e
written_is e =
    ap (λ (layer : Node-F Written Written Written → Written). (fold-Expr Written Written Written layer written_branch written_expr e).0) (fun_ext layer_same)
    ∙ written_temporal e
