-- The formula that an expression is, its `<->` and `xor` over CTL operators written out.
use Rattle.std.specs.Prelude.{Bool, ◌||◌, if◌then◌else◌}
use Rattle.cov_syntax.specs.declared.tree.Op1.{Op1}
use Rattle.cov_syntax.specs.declared.tree.Op1.TheVariants as op1
use Rattle.cov_syntax.specs.declared.tree.Op2.{Op2}
use Rattle.cov_syntax.specs.declared.tree.Op2.TheVariants as op2
use Rattle.cov_syntax.specs.declared.tree.Expr.{Expr}
use Rattle.cov_syntax.specs.declared.tree.Branch.{Branch}
use Rattle.cov_syntax.specs.declared.tree.Node.{Node, out-Node}
use Rattle.cov_syntax.specs.declared.tree.Node.TheOpen.{Node-F, Branch-F, Expr-F}
use Rattle.cov_syntax.specs.declared.tree.Node.TheFolds.{fold-Expr}
use Rattle.cov_ctl.specs.Temporal.{is_temporal}
use Rattle.cov_ctl.specs.declared.formula.Formula.{Formula}
use Rattle.cov_ctl.specs.declared.formula.Formula.TheVariants as f

-- `f xor g` says that one of them holds alone, `f <-> g` that both hold or both fail
abbrev pub written_out : Op2 → Formula → Formula → Formula
written_out op2.Xor a b = f.Or (f.And a (f.Not b)) (f.And (f.Not a) b)
written_out _ a b = f.Or (f.And a b) (f.And (f.Not a) (f.Not b))

-- an operator on the formula of its operand; any other operator stays in the atom of the whole
abbrev pub lowered_one : Expr → Op1 → Formula → Formula
lowered_one whole op1.Not a = f.Not a
lowered_one whole op1.Ex a = f.Ex a
lowered_one whole op1.Ef a = f.Ef a
lowered_one whole op1.Eg a = f.Eg a
lowered_one whole op1.Ax a = f.Ax a
lowered_one whole op1.Af a = f.Af a
lowered_one whole op1.Ag a = f.Ag a
lowered_one whole op1.Neg a = f.Atom whole
lowered_one whole op1.Next a = f.Atom whole

-- an operator on the formulas of its operands, in which a CTL operator stands or not
abbrev pub lowered_two : Expr → Op2 → Bool → Formula → Formula → Formula
lowered_two whole op2.And temporal a b = f.And a b
lowered_two whole op2.Or temporal a b = f.Or a b
lowered_two whole op2.Implies temporal a b = f.Implies a b
lowered_two whole op2.Au temporal a b = f.Au a b
lowered_two whole op2.Eu temporal a b = f.Eu a b
lowered_two whole op2.Iff temporal a b = if temporal then written_out op2.Iff a b else f.Atom whole
lowered_two whole op2.Xor temporal a b = if temporal then written_out op2.Xor a b else f.Atom whole
lowered_two whole _ temporal a b = f.Atom whole

-- a node of the whole expression; what each operand is lowered to is a function of the operand
abbrev pub lowered_layer : Expr → Node-F (Expr → Formula) (Branch → Formula) (Expr → Formula) → Node-F Node Branch Expr → Formula
lowered_layer whole (Node-F.One op a) (Node-F.One oq x) = lowered_one whole oq (a x)
lowered_layer whole (Node-F.Two op a b) (Node-F.Two oq x y) = lowered_two whole oq (is_temporal x || is_temporal y) (a x) (b y)
lowered_layer whole _ _ = f.Atom whole

-- a node, given the whole expression
abbrev pub on_node : Node-F (Expr → Formula) (Branch → Formula) (Expr → Formula) → Expr → Formula
on_node layer whole = lowered_layer whole layer (out-Node whole.node)

-- a branch stands in atoms alone, so this is never asked
abbrev pub on_branch : Branch-F (Expr → Formula) (Branch → Formula) (Expr → Formula) → Branch → Formula
on_branch b c = b.body c.body

-- an expression, given itself
abbrev pub on_expr : Expr-F (Expr → Formula) (Branch → Formula) (Expr → Formula) → Expr → Formula
on_expr e whole = e.node whole

-- the formula of an expression
abbrev pub lowered : Expr → Formula
lowered e = fold-Expr (Expr → Formula) (Branch → Formula) (Expr → Formula) on_node on_branch on_expr e e
