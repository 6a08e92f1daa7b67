use Rattle.std.proofs.Common.{◌≡◌, ◌-◌, [], length}
use Rattle.cov_grammar.specs.Modules as spec
use Rattle.cov_parse.proofs.modules.modules.Given as goal

abbrev pub invariant-loop-turn : goal.invariant-loop-turn
invariant-loop-turn l = spec.modules (length l.lexemes) [] l.lexemes ≡ spec.modules (length l.lexemes - l._turn) l.found l.rest
