use Rattle.std.proofs.Common.{◌≡◌, ◌-◌}
use Rattle.cov_grammar.specs.Modules as spec
use Rattle.cov_grammar.specs.Steps as steps
use Rattle.cov_parse.proofs.sections.entries.Given as goal

abbrev pub invariant-loop-turn : goal.invariant-loop-turn
invariant-loop-turn l =
    steps.many (spec.begins_entry l.block) (spec.entry l.block) l.turns l.initial.found l.lexemes
    ≡ steps.many (spec.begins_entry l.block) (spec.entry l.block) (l.turns - l._turn) l.found l.rest
