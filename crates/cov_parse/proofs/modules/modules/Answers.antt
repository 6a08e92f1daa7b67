use Rattle.std.proofs.Common.{length, sym, ◌∙◌}
use Rattle.cov_parse.proofs.Loops.{modules_step}
use Rattle.cov_parse.proofs.modules.modules.Goals as goal

pub loop-turn-preserved : goal.loop-turn-preserved
loop-turn-preserved c =
    c.loop-turn.invariant
    ∙ modules_step (length c.args.lexemes.now) c.loop-turn._turn c.loop-turn.found _ c.loop-turn.rest.now c.in_ok-tree.tree c.in_ok-tree.after.now c.loop-turn-test.true
    c.in_ok-tree.ensures (sym c.if-not-is_next.ensures) c.in_ok-push.ensures.ok
