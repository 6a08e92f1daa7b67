use Rattle.std.proofs.Common.{arith}
use Rattle.std.proofs.lemmas.Int.{ints, clamps}
use Rattle.cov_kinds.proofs.Steps.{hull_step}
use Rattle.cov_kinds.proofs.values.hull_of.Goals as goal

pub loop-x-preserved : goal.loop-x-preserved
loop-x-preserved c = record {
  whole = hull_step _ _ _ _ _ _ _ c.loop-x-test.true (omega (arith, ints, clamps)) (omega (arith, ints, clamps)) c.loop-x.invariant.whole;
  ordered = omega (arith, ints, clamps);
}
