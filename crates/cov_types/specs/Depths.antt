-- The depths of nodes, branches and lists of expressions.
use Rattle.std.specs.Prelude.{ℕ, max, List, map}
use Rattle.cov_syntax.specs.declared.tree.Expr.{Expr}
use Rattle.cov_syntax.specs.declared.tree.Branch.{Branch}
use Rattle.cov_syntax.specs.declared.tree.Node.{Node}
use Rattle.cov_syntax.specs.declared.tree.Node.TheFolds.{fold-Node, fold-Branch}
use Rattle.cov_model.specs.Flat.{greatest, depth, depth_layer}

-- the depth of a node
abbrev pub node_depth : Node → ℕ
node_depth = fold-Node ℕ ℕ ℕ depth_layer (λ b. max b.guard b.body) (λ e. e.node)

-- the greater depth of a guard and its body
abbrev pub branch_depth : Branch → ℕ
branch_depth = fold-Branch ℕ ℕ ℕ depth_layer (λ b. max b.guard b.body) (λ e. e.node)

-- the greatest depth of some expressions
abbrev pub all_depth : List Expr → ℕ
all_depth es = greatest (map depth es)

-- the greatest depth of some branches
abbrev pub all_branch_depth : List Branch → ℕ
all_branch_depth bs = greatest (map branch_depth bs)
