use Rattle.std.proofs.Common.{below_more}
use Rattle.cov_replay.proofs.running.first_unvisited.Goals as goal

pub loop-k-preserved : goal.loop-k-preserved
loop-k-preserved c = record { made = c.is_visited.ensures.kept; before = below_more _ _ c.loop-k.invariant.before (c.is_visited.ensures.value.0 c.if-not-is_visited.false) }
