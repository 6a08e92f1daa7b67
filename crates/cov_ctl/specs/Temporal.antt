-- Whether a CTL operator stands in an expression, and where one may stand.
use Rattle.std.specs.Prelude.{Bool, true, false, ◌||◌, List, map}
use Rattle.std.specs.List.{list_any}
use Rattle.cov_syntax.specs.declared.tree.Op1.{Op1}
use Rattle.cov_syntax.specs.declared.tree.Op1.TheVariants as op1
use Rattle.cov_syntax.specs.declared.tree.Op2.{Op2}
use Rattle.cov_syntax.specs.declared.tree.Op2.TheVariants as op2
use Rattle.cov_syntax.specs.declared.tree.Expr.{Expr}
use Rattle.cov_syntax.specs.declared.tree.Branch.{Branch}
use Rattle.cov_syntax.specs.declared.tree.Node.{Node}
use Rattle.cov_syntax.specs.declared.tree.Node.TheOpen.{Node-F, Branch-F, Expr-F}
use Rattle.cov_syntax.specs.declared.tree.Node.TheFolds.{fold-Expr, fold-Node, fold-Branch}

-- the CTL operators with one operand
abbrev pub is_path_operator : Op1 → Bool
is_path_operator op1.Not = false
is_path_operator op1.Neg = false
is_path_operator op1.Next = false
is_path_operator _ = true

-- the CTL operators with two
abbrev pub is_until : Op2 → Bool
is_until op2.Au = true
is_until op2.Eu = true
is_until _ = false

-- a node, given whether its parts are temporal
abbrev pub temporal_layer : Node-F Bool Bool Bool → Bool
temporal_layer (Node-F.One op a) = is_path_operator op || a
temporal_layer (Node-F.Two op a b) = is_until op || a || b
temporal_layer (Node-F.Set es) = list_any (λ e. e) es
temporal_layer (Node-F.Case bs) = list_any (λ b. b) bs
temporal_layer _ = false

-- a branch, by its guard and its body
abbrev pub temporal_branch : Branch-F Bool Bool Bool → Bool
temporal_branch b = b.guard || b.body

-- an expression, by its node
abbrev pub temporal_expr : Expr-F Bool Bool Bool → Bool
temporal_expr e = e.node

-- whether a CTL operator stands in the expression
abbrev pub is_temporal : Expr → Bool
is_temporal = fold-Expr Bool Bool Bool temporal_layer temporal_branch temporal_expr

-- the same of a node
abbrev pub node_is_temporal : Node → Bool
node_is_temporal = fold-Node Bool Bool Bool temporal_layer temporal_branch temporal_expr

-- the same of a branch
abbrev pub branch_is_temporal : Branch → Bool
branch_is_temporal = fold-Branch Bool Bool Bool temporal_layer temporal_branch temporal_expr

-- whether one of the expressions is temporal
abbrev pub some_temporal : List Expr → Bool
some_temporal es = list_any (λ b. b) (map is_temporal es)

-- whether one of the branches is
abbrev pub some_branch_temporal : List Branch → Bool
some_branch_temporal bs = list_any (λ b. b) (map branch_is_temporal bs)
