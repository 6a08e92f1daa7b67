-- How much there is in the flat walk, and the limits.
use Rattle.std.specs.Prelude.{ℕ, ◌+◌, ◌-◌, Bool, ◌||◌, nat_lt, List, [], ◌∷◌, ◌++◌, map, length, sum_by}
use Rattle.std.specs.List.{flat_map}
use Rattle.cov_syntax.specs.declared.program.Section.{Section}
use Rattle.cov_syntax.specs.declared.program.Section.TheVariants as section
use Rattle.cov_syntax.specs.declared.tree.Expr.{Expr}
use Rattle.cov_syntax.specs.declared.tree.Node.TheOpen.{Node-F, Expr-F, Branch-F}
use Rattle.cov_syntax.specs.declared.tree.Node.TheFolds.{fold-Expr, fold-Node, fold-Branch}
use Rattle.cov_syntax.specs.declared.tree.Branch.{Branch}
use Rattle.cov_syntax.specs.declared.tree.Node.{Node}
use Rattle.cov_modules.specs.Walk.{Stop}
use Rattle.cov_modules.specs.FlatLists.{flat_vars, FlatDefine, flat_defines}

-- the most flat names
abbrev pub most_names : ℕ
most_names = 4096

-- the most nodes
abbrev pub most_nodes : ℕ
most_nodes = 1000000

-- one more than the nodes of the parts
abbrev pub nodes_layer : Node-F ℕ ℕ ℕ → ℕ
nodes_layer (Node-F.One op a) = 1 + a
nodes_layer (Node-F.Two op a b) = 1 + a + b
nodes_layer (Node-F.Set es) = 1 + sum_by (λ k. k) es
nodes_layer (Node-F.Case bs) = 1 + sum_by (λ k. k) bs
nodes_layer _ = 1

-- the nodes of a branch, by its guard and its body
abbrev pub nodes_branch : Branch-F ℕ ℕ ℕ → ℕ
nodes_branch b = b.guard + b.body

-- the nodes of an expression, by its node
abbrev pub nodes_expr : Expr-F ℕ ℕ ℕ → ℕ
nodes_expr e = e.node

-- the nodes of an expression; a path is one node
abbrev pub nodes : Expr → ℕ
nodes = fold-Expr ℕ ℕ ℕ nodes_layer nodes_branch nodes_expr

-- the same of a node
abbrev pub node_nodes : Node → ℕ
node_nodes = fold-Node ℕ ℕ ℕ nodes_layer nodes_branch nodes_expr

-- the same of a branch
abbrev pub branch_nodes : Branch → ℕ
branch_nodes = fold-Branch ℕ ℕ ℕ nodes_layer nodes_branch nodes_expr

-- the expressions of the model's lists that a section gives, but for DEFINEs
abbrev pub body_of : Section → List Expr
body_of (section.Assign when target body) = body ∷ []
body_of (section.Cond kind body) = body ∷ []
body_of _ = []

-- the expressions of the model's lists
abbrev pub bodies : List Stop → List Expr
bodies w = map (λ (d : FlatDefine). d.body) (flat_defines w) ++ flat_map (λ (s : Stop). flat_map body_of s.here.from.sections) w

-- the number of variables, DEFINEs and instances; `main` is none, and has no flat name
abbrev pub flat_names : List Stop → ℕ
flat_names w = length (flat_vars w) + length (flat_defines w) + (length w - 1)

-- more flat names or more nodes than the limits
abbrev pub is_too_large : List Stop → Bool
is_too_large w = nat_lt most_names (flat_names w) || nat_lt most_nodes (sum_by nodes (bodies w))

-- the nodes of some expressions
abbrev pub all_nodes : List Expr → ℕ
all_nodes es = sum_by (λ k. k) (map nodes es)

-- the nodes of some branches
abbrev pub all_branch_nodes : List Branch → ℕ
all_branch_nodes bs = sum_by (λ k. k) (map branch_nodes bs)
