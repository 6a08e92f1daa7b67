use Rattle.std.proofs.Common.{length, sym, ◌∙◌}
use Rattle.cov_syntax.specs.declared.lexeme.Terminal.TheVariants as k
use Rattle.cov_syntax.specs.declared.marks.Mark.TheVariants as m
use Rattle.cov_grammar.specs.Modules.{item}
use Rattle.cov_parse.proofs.Loops.{separated_step}
use Rattle.cov_parse.proofs.types.items.Goals as goal

pub loop-turn-preserved : goal.loop-turn-preserved
loop-turn-preserved c =
    c.loop-turn.invariant
    ∙ separated_step (k.Mark m.Comma) item (length c.args.lexemes.now) c.loop-turn._turn c.loop-turn.found _ c.loop-turn.rest.now c.in_ok-value.value c.in_ok-value.after.now _ c.loop-turn-test.true
    c.in_ok-value.ensures (sym c.if-not-is_next.ensures) c.next-rest.ensures c.in_ok-push.ensures.ok
