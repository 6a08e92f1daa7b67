-- The parts of an expression as an instance reads them, and the first of its paths that names no value.
use Rattle.std.specs.Prelude.{ℕ, List, ◌∷◌, [], map, Option}
use Rattle.cov_syntax.specs.declared.tree.Span.{Span}
use Rattle.cov_syntax.specs.declared.tree.Expr.{Expr, roll-Expr}
use Rattle.cov_syntax.specs.declared.tree.Branch.{Branch, roll-Branch}
use Rattle.cov_syntax.specs.declared.tree.Node.{Node}
use Rattle.cov_syntax.specs.declared.tree.Node.TheFolds.{fold-Node, fold-Branch}
use Rattle.cov_syntax.specs.declared.program.Program.{Program}
use Rattle.cov_modules.specs.Names.{first}
use Rattle.cov_modules.specs.Things.{Instance}
use Rattle.cov_modules.specs.FlatLists.{flat_layer, flat_expr}
use Rattle.cov_modules.specs.NameFaults.{unknown_layer, unknown_in}
use Rattle.cov_flat.specs.Reading.{flat_index, stop_at}

-- the instance of a number
abbrev pub here : Program → ℕ → Instance
here p k = (stop_at p k).here

-- an expression as the instance of a number reads it
abbrev pub read_expr : Program → ℕ → Expr → Expr
read_expr p k = flat_expr p (flat_index p) (here p k)

-- a node as the instance reads it
abbrev pub read_node : Program → ℕ → Node → Node
read_node p k = fold-Node Node Branch Expr (flat_layer p (flat_index p) (here p k))
    (λ b. roll-Branch (record { guard = b.guard; body = b.body }))
    (λ e. roll-Expr (record { node = e.node; place = e.place }))

-- a branch as the instance reads it
abbrev pub read_branch : Program → ℕ → Branch → Branch
read_branch p k = fold-Branch Node Branch Expr (flat_layer p (flat_index p) (here p k))
    (λ b. roll-Branch (record { guard = b.guard; body = b.body }))
    (λ e. roll-Expr (record { node = e.node; place = e.place }))

-- the members as the instance reads them
abbrev pub read_items : Program → ℕ → List Expr → List Expr
read_items p k es = map (read_expr p k) es

-- the branches as the instance reads them
abbrev pub read_branches : Program → ℕ → List Branch → List Branch
read_branches p k bs = map (read_branch p k) bs

-- the first path of a node at a place that names no value
abbrev pub unknown_node : Program → Instance → Node → Span → Option Span
unknown_node p x = fold-Node (Span → Option Span) (Option Span) (Option Span) (unknown_layer p x) (λ b. first (b.guard ∷ b.body ∷ [])) (λ e. e.node e.place)

-- the first path of a branch that names no value
abbrev pub unknown_branch : Program → Instance → Branch → Option Span
unknown_branch p x = fold-Branch (Span → Option Span) (Option Span) (Option Span) (unknown_layer p x) (λ b. first (b.guard ∷ b.body ∷ [])) (λ e. e.node e.place)

-- the first path of the members that names no value
abbrev pub unknown_items : Program → Instance → List Expr → Option Span
unknown_items p x es = first (map (unknown_in p x) es)

-- the first path of the branches that names no value
abbrev pub unknown_branches : Program → Instance → List Branch → Option Span
unknown_branches p x bs = first (map (unknown_branch p x) bs)
