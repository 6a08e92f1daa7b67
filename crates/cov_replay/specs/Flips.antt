-- Where the judge reads a signal inverted.
use Rattle.std.specs.Prelude.{Option, Some, None, if◌then◌else◌}
use Rattle.std.specs.Str.{bytes_eq}
use Rattle.cov_model.specs.declared.model.Signal.{Signal}
use Rattle.cov_model.specs.States.{State}
use Rattle.cov_claims.specs.declared.evidence.Claim.{Claim}
use Rattle.cov_claims.specs.declared.evidence.Claim.TheVariants.{Mutant, Occurrence}

-- the signal that is read inverted at a state, if there is one
abbrev pub flip_at : Claim → State → Option Signal
flip_at (Mutant q w) s = if bytes_eq w s then Some q else None
flip_at (Occurrence n) s = None
