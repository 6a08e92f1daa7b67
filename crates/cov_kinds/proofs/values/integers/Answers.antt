use Rattle.std.proofs.Common.{arith}
use Rattle.std.proofs.lemmas.Int.{ints}
use Rattle.cov_kinds.proofs.Steps.{integers_step}
use Rattle.cov_kinds.proofs.values.integers.Goals as goal

pub loop-preserved : goal.loop-preserved
loop-preserved c = record {
  whole = integers_step _ _ _ _ _ _ _ _ c.loop-test.true (omega (arith, ints)) (omega (arith, ints)) c.in_ok-push.ensures.ok c.loop.invariant.whole;
  next = omega (arith, ints);
}
