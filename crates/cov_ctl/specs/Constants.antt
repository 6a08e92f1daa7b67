-- The constants of formulas.
use Rattle.std.specs.Prelude.{Bool}
use Rattle.cov_syntax.specs.declared.tree.Expr.{Expr, roll-Expr}
use Rattle.cov_syntax.specs.declared.tree.Node.TheVariants as node
use Rattle.cov_syntax.specs.declared.tree.Value.TheVariants as value

-- TRUE or FALSE as an expression, which stands nowhere in a text
abbrev pub constant_expr : Bool → Expr
constant_expr truth = roll-Expr (record { node = node.Lit (value.Bool truth); place = record { start = 0; stop = 0 } })
