-- What the parts of an expression name, and the parts renumbered.
use Rattle.std.specs.Prelude.{ℕ, List, ◌++◌, map}
use Rattle.std.specs.List.{flat_map}
use Rattle.cov_syntax.specs.declared.tree.Expr.{Expr, roll-Expr}
use Rattle.cov_syntax.specs.declared.tree.Branch.{Branch, roll-Branch}
use Rattle.cov_syntax.specs.declared.tree.Node.{Node}
use Rattle.cov_syntax.specs.declared.tree.Node.TheFolds.{fold-Node, fold-Branch}
use Rattle.cov_model.specs.Order.{reads, reads_layer, renumbered, renumbered_layer}

-- the DEFINEs that a node names
abbrev pub node_reads : Node → List ℕ
node_reads = fold-Node (List ℕ) (List ℕ) (List ℕ) reads_layer (λ b. b.guard ++ b.body) (λ e. e.node)

-- the DEFINEs that a branch names
abbrev pub reads_of_branch : Branch → List ℕ
reads_of_branch = fold-Branch (List ℕ) (List ℕ) (List ℕ) reads_layer (λ b. b.guard ++ b.body) (λ e. e.node)

-- the DEFINEs that the members name
abbrev pub item_reads : List Expr → List ℕ
item_reads es = flat_map (λ xs. xs) (map reads es)

-- the DEFINEs that the branches name
abbrev pub branch_reads : List Branch → List ℕ
branch_reads bs = flat_map (λ xs. xs) (map reads_of_branch bs)

-- a node, its DEFINEs named by their places in this order
abbrev pub renumbered_node : List ℕ → Node → Node
renumbered_node order = fold-Node Node Branch Expr (renumbered_layer order)
    (λ b. roll-Branch (record { guard = b.guard; body = b.body }))
    (λ e. roll-Expr (record { node = e.node; place = e.place }))

-- a branch, its DEFINEs named by their places in this order
abbrev pub renumbered_branch : List ℕ → Branch → Branch
renumbered_branch order = fold-Branch Node Branch Expr (renumbered_layer order)
    (λ b. roll-Branch (record { guard = b.guard; body = b.body }))
    (λ e. roll-Expr (record { node = e.node; place = e.place }))

-- the members, renumbered
abbrev pub renumbered_items : List ℕ → List Expr → List Expr
renumbered_items order es = map (renumbered order) es

-- the branches, renumbered
abbrev pub renumbered_branches : List ℕ → List Branch → List Branch
renumbered_branches order bs = map (renumbered_branch order) bs
