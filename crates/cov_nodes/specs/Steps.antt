-- The steps of the calls that put the set of one node.
use Rattle.std.specs.Prelude.{ℕ, not, if◌then◌else◌, ◌||◌, List, Bool, true, false, Option, Some, None}
use Rattle.cov_dd.specs.Need.{values}
use Rattle.cov_space.specs.Sets.{lies}
use Rattle.cov_syntax.specs.declared.tree.Value.{Value}
use Rattle.cov_model.specs.declared.model.Signal.{Signal}
use Rattle.cov_model.specs.declared.model.Signal.TheVariants as signal
use Rattle.cov_model.specs.Meaning.{same_signal}
use Rattle.cov_model.specs.Values.{inverse}

-- one of two at least, or one alone
abbrev pub one_of : Bool → Bool → Bool → Bool
one_of true a b = if a then not b else b
one_of false a b = a || b

-- the rows in one of the sets at least, or in one alone
abbrev pub one_of_set : ℕ → Bool → List Bool → List Bool → List Bool
one_of_set levels alone a b = values levels (λ row. one_of alone (lies a row) (lies b row))

-- the rows outside the first set or in the second, or those for which one of these alone is true
abbrev pub rest_set : ℕ → Bool → List Bool → List Bool → List Bool
rest_set levels alone a b = values levels (λ row. one_of alone (not (lies a row)) (lies b row))

-- whether the signal is the variable
abbrev pub inverts : Option Signal → ℕ → Bool
inverts None i = false
inverts (Some p) i = same_signal p (signal.Var i)

-- a value as it is read
abbrev pub read_as : Bool → Value → Value
read_as inverted x = if inverted then inverse x else x
