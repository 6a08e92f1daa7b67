use Rattle.std.proofs.Common.{arith, ◌∙◌}
use Rattle.cov_conditions.proofs.Asking.{asked_turn}
use Rattle.cov_conditions.proofs.asked.asked_values.Goals as goal

pub loop-k-preserved : goal.loop-k-preserved
loop-k-preserved c =
    c.in_ok-push.ensures.ok
    ∙ asked_turn c.args.inverted c.args.values.now c.loop-k.xs c.args.first c.loop-k.k _ c.asked_value.result (omega arith) (omega arith) c.asked_value.ensures c.loop-k.invariant
