use Rattle.std.proofs.Common.{◌-◌, ◌+◌, sym, ap, ◌∙◌}
use Rattle.std.proofs.lemmas.Result.{err_from_is_err_and}
use Rattle.cov_grammar.specs.Modules as spec
use Rattle.cov_grammar.specs.Steps as steps
use Rattle.cov_grammar.specs.Steps.{◌>>=◌}
use Rattle.cov_parse.proofs.Loops.{list_fails, rest_of, many_turn}
use Rattle.cov_parse.proofs.sections.entries.Goals as goal

pub loop-turn-preserved : goal.loop-turn-preserved
loop-turn-preserved c =
    c.loop-turn.invariant
    ∙ many_turn c.args.block c.args.turns c.loop-turn._turn c.loop-turn.found c.loop-turn.rest.now c.loop-turn-test.true (ap (λ d. spec.begins_entry c.args.block d) (sym c.kind.ensures) ∙ sym c.if-not-begins_entry.ensures)
    ∙ ap (λ r. r >>= rest_of c.args.block (c.args.turns - (c.loop-turn._turn + 1))) c.in_ok-more.ensures

pub returns-in_err-more : goal.returns-in_err-more
returns-in_err-more c =
    let p = err_from_is_err_and c.from_residual.result c.from_residual.ensures.1 in
    rw (p.1, p.2) (list_fails c.in_err-more.field-0.0 (spec.entry_after c.args.block c.loop-turn.found c.loop-turn.rest.now) (rest_of c.args.block (c.args.turns - (c.loop-turn._turn + 1))) (steps.many (spec.begins_entry c.args.block) (spec.entry c.args.block) c.args.turns c.args.found c.args.lexemes.now)
    (c.loop-turn.invariant ∙ many_turn c.args.block c.args.turns c.loop-turn._turn c.loop-turn.found c.loop-turn.rest.now c.loop-turn-test.true (ap (λ d. spec.begins_entry c.args.block d) (sym c.kind.ensures) ∙ sym c.if-not-begins_entry.ensures))
    c.in_err-more.ensures)
