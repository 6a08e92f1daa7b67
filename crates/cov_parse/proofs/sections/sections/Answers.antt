use Rattle.std.proofs.Common.{◌-◌, ◌+◌, [], length, sym, ap, ◌∙◌}
use Rattle.std.proofs.lemmas.Result.{err_from_is_err_and}
use Rattle.cov_grammar.specs.Modules as spec
use Rattle.cov_grammar.specs.Steps.{◌>>=◌}
use Rattle.cov_parse.proofs.Loops.{list_fails, other_sections, sections_turn}
use Rattle.cov_parse.proofs.sections.sections.Goals as goal

pub loop-turn-preserved : goal.loop-turn-preserved
loop-turn-preserved c =
    c.loop-turn.invariant
    ∙ sections_turn (length c.args.lexemes.now) c.loop-turn._turn c.loop-turn.found c.loop-turn.rest.now c.loop-turn-test.true (ap spec.begins_section (sym c.kind.ensures) ∙ sym c.if-not-begins_section.ensures)
    ∙ ap (λ r. r >>= other_sections (length c.args.lexemes.now - (c.loop-turn._turn + 1))) c.in_ok-more.ensures

pub returns-in_err-more : goal.returns-in_err-more
returns-in_err-more c =
    let p = err_from_is_err_and c.from_residual.result c.from_residual.ensures.1 in
    rw (p.1, p.2) (list_fails c.in_err-more.field-0.0 (spec.section c.loop-turn.found c.loop-turn.rest.now) (other_sections (length c.args.lexemes.now - (c.loop-turn._turn + 1))) (spec.sections (length c.args.lexemes.now) [] c.args.lexemes.now)
    (c.loop-turn.invariant
    ∙ sections_turn (length c.args.lexemes.now) c.loop-turn._turn c.loop-turn.found c.loop-turn.rest.now c.loop-turn-test.true (ap spec.begins_section (sym c.kind.ensures) ∙ sym c.if-not-begins_section.ensures))
    c.in_err-more.ensures)
