use Rattle.std.proofs.Common.{◌≡◌, ◌-◌, [], length}
use Rattle.cov_syntax.specs.declared.lexeme.Terminal.TheVariants as k
use Rattle.cov_syntax.specs.declared.marks.Mark.TheVariants as m
use Rattle.cov_grammar.specs.Steps as steps
use Rattle.cov_grammar.specs.Steps.{name}
use Rattle.cov_parse.proofs.parts.names.Given as goal

abbrev pub invariant-loop-turn : goal.invariant-loop-turn
invariant-loop-turn l = steps.separated (k.Mark m.Dot) name (length l.lexemes) [] l.lexemes ≡ steps.separated (k.Mark m.Dot) name (length l.lexemes - l._turn) l.found l.rest
