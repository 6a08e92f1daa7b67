-- The size of a lowered formula, counted on the expression.
use Rattle.std.specs.Prelude.{ℕ, ◌+◌, Bool, true, false, ◌||◌, if◌then◌else◌}
use Rattle.std.specs.List.{list_any}
use Rattle.cov_syntax.specs.declared.tree.Op1.{Op1}
use Rattle.cov_syntax.specs.declared.tree.Op1.TheVariants as op1
use Rattle.cov_syntax.specs.declared.tree.Op2.{Op2}
use Rattle.cov_syntax.specs.declared.tree.Op2.TheVariants as op2
use Rattle.cov_syntax.specs.declared.tree.Expr.{Expr}
use Rattle.cov_syntax.specs.declared.tree.Node.TheOpen.{Node-F, Branch-F, Expr-F}
use Rattle.cov_syntax.specs.declared.tree.Node.TheFolds.{fold-Expr}

-- whether a CTL operator stands in an expression, and how many nodes its formula has
abbrev pub Written : Type 0
Written = Bool × ℕ

-- an atom has one node
abbrev pub atom : Bool → Written
atom temporal = (temporal, 1)

-- each operand stands once
abbrev pub once : Written → Written → Written
once a b = (a.0 || b.0, 1 + a.1 + b.1)

-- each operand stands twice, with three operators over them and two negations, where the operator is written out
abbrev pub twice : Written → Written → Written
twice a b = if a.0 || b.0 then (true, 5 + (a.1 + b.1) + (a.1 + b.1)) else atom false

-- an operator with one operand
abbrev pub written_one : Op1 → Written → Written
written_one op1.Not a = (a.0, 1 + a.1)
written_one op1.Neg a = atom a.0
written_one op1.Next a = atom a.0
written_one _ a = (true, 1 + a.1)

-- an operator with two operands
abbrev pub written_two : Op2 → Written → Written → Written
written_two op2.And a b = once a b
written_two op2.Or a b = once a b
written_two op2.Implies a b = once a b
written_two op2.Iff a b = twice a b
written_two op2.Xor a b = twice a b
written_two op2.Au a b = (true, 1 + a.1 + b.1)
written_two op2.Eu a b = (true, 1 + a.1 + b.1)
written_two _ a b = atom (a.0 || b.0)

-- a node, given what is counted on its parts
abbrev pub written_layer : Node-F Written Written Written → Written
written_layer (Node-F.One op a) = written_one op a
written_layer (Node-F.Two op a b) = written_two op a b
written_layer (Node-F.Set es) = atom (list_any (λ (e : Written). e.0) es)
written_layer (Node-F.Case bs) = atom (list_any (λ (b : Written). b.0) bs)
written_layer _ = atom false

-- a branch, by its guard and its body
abbrev pub written_branch : Branch-F Written Written Written → Written
written_branch b = atom (b.guard.0 || b.body.0)

-- an expression, by its node
abbrev pub written_expr : Expr-F Written Written Written → Written
written_expr e = e.node

-- whether a CTL operator stands in the expression, and the size of its formula
abbrev pub written : Expr → Written
written = fold-Expr Written Written Written written_layer written_branch written_expr
