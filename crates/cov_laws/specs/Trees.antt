-- A law of the test of trees.
use Rattle.std.specs.Prelude.{◌≡◌, IsTrue, ◌↔◌}
use Rattle.cov_syntax.specs.declared.tree.Span.{Span}
use Rattle.cov_syntax.specs.declared.tree.Expr.{Expr, roll-Expr}
use Rattle.cov_syntax.specs.declared.tree.Branch.{Branch, roll-Branch}
use Rattle.cov_syntax.specs.declared.tree.Node.{Node, roll-Node}
use Rattle.cov_syntax.specs.declared.tree.Node.TheFolds.{fold-Expr}
use Rattle.cov_model.specs.Trees.{same_tree}

-- one place for all
abbrev pub nowhere : Span
nowhere = record { start = 0; stop = 0 }

-- the tree as it is, but each of its expressions at that place
abbrev pub placeless : Expr → Expr
placeless = fold-Expr Node Branch Expr roll-Node (λ b. roll-Branch (record { guard = b.guard; body = b.body }))
    (λ e. roll-Expr (record { node = e.node; place = nowhere }))

-- the test says exactly that the trees are equal apart from places
abbrev pub SameTreeDecides : Type 0
SameTreeDecides = (e f : Expr) → IsTrue (same_tree e f) ↔ (placeless e ≡ placeless f)
