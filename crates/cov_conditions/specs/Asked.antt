-- What is asked of the body of a DEFINE that may be inverted.
use Rattle.std.specs.Prelude.{ℕ, ◌==◌, if◌then◌else◌, Bool, false, Option, Some, None}
use Rattle.cov_syntax.specs.declared.tree.Value.{Value}
use Rattle.cov_model.specs.declared.model.Signal.{Signal}
use Rattle.cov_model.specs.declared.model.Signal.TheVariants as signal
use Rattle.cov_model.specs.Values.{inverse}

-- whether the flip names the DEFINE
abbrev pub inverts : Option Signal → ℕ → Bool
inverts (Some (signal.Def j)) i = j == i
inverts (Some (signal.Var j)) i = false
inverts None i = false

-- the value of the body where the DEFINE is read as this one
abbrev pub asked : Bool → Value → Value
asked inverted x = if inverted then inverse x else x
