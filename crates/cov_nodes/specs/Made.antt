-- The values that operators make, as whole numbers.
use Rattle.std.specs.Prelude.{neg_ℤ}
use Rattle.cov_syntax.specs.declared.tree.Value.{Value}
use Rattle.cov_syntax.specs.declared.tree.Value.TheVariants as v
use Rattle.cov_model.specs.Values.{number}
use Rattle.cov_nodes.specs.declared.results.Made as made

-- the value, whatever the size of its number
abbrev pub value_of : made.Made → Value
value_of (made.TheVariants.Truth b) = v.Bool b
value_of (made.TheVariants.Number n) = v.Int n

-- the negative of a value
abbrev pub negative : Value → Value
negative x = v.Int (neg_ℤ (number x))
