use Rattle.std.proofs.Common.{◌≡◌, take}
use Rattle.std.specs.Prelude.{min}
use Rattle.cov_syntax.specs.Lexemes as spec
use Rattle.cov_parse.proofs.meanings.value_of.Given as goal

abbrev pub invariant-loop-digit : goal.invariant-loop-digit
invariant-loop-digit l = l.value ≡ min (spec.value_of (take l.digit-index l.digits)) 1000001
