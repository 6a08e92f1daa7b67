-- An expression with its parts, and the widest of their own kinds.
use Rattle.std.specs.Prelude.{ℕ, List, [], ◌∷◌, ◌++◌, map}
use Rattle.std.specs.List.{flat_map}
use Rattle.cov_syntax.specs.declared.tree.Span.{Span}
use Rattle.cov_syntax.specs.declared.tree.Expr.{Expr, roll-Expr}
use Rattle.cov_syntax.specs.declared.tree.Branch.{Branch, roll-Branch}
use Rattle.cov_syntax.specs.declared.tree.Node.{Node, roll-Node}
use Rattle.cov_syntax.specs.declared.tree.Node.TheOpen.{Node-F}
use Rattle.cov_syntax.specs.declared.tree.Node.TheFolds.{fold-Expr}
use Rattle.cov_model.specs.Flat.{greatest}
use Rattle.cov_model.specs.Kinds.{Kinds, width}
use Rattle.cov_model.specs.Walk.{own}

-- a node with the parts below it
abbrev pub parts_layer : Node-F (Node × List Expr) (Branch × List Expr) (Expr × List Expr) → Node × List Expr
parts_layer (Node-F.Lit x) = (roll-Node (Node-F.Lit x), [])
parts_layer (Node-F.Path p) = (roll-Node (Node-F.Path p), [])
parts_layer (Node-F.Var i) = (roll-Node (Node-F.Var i), [])
parts_layer (Node-F.Def i) = (roll-Node (Node-F.Def i), [])
parts_layer (Node-F.One op a) = (roll-Node (Node-F.One op a.0), a.1)
parts_layer (Node-F.Two op a b) = (roll-Node (Node-F.Two op a.0 b.0), a.1 ++ b.1)
parts_layer (Node-F.Range low high) = (roll-Node (Node-F.Range low high), [])
parts_layer (Node-F.Set es) = (roll-Node (Node-F.Set (map (λ (e : Expr × List Expr). e.0) es)), flat_map (λ (e : Expr × List Expr). e.1) es)
parts_layer (Node-F.Case bs) = (roll-Node (Node-F.Case (map (λ (b : Branch × List Expr). b.0) bs)), flat_map (λ (b : Branch × List Expr). b.1) bs)

-- an expression, and all its parts
abbrev pub parts : Expr → List Expr
parts e = (fold-Expr (Node × List Expr) (Branch × List Expr) (Expr × List Expr) parts_layer
    (λ b. (roll-Branch (record { guard = b.guard.0; body = b.body.0 }), b.guard.1 ++ b.body.1))
    (λ x. let whole : Expr = roll-Expr (record { node = x.node.0; place = x.place }) in (whole, whole ∷ x.node.1)) e).1

-- the greatest number of values of the own kinds of an expression and of its parts
abbrev pub widest : Kinds → Expr → ℕ
widest ks e = greatest (map (λ x. width (own ks x)) (parts e))
