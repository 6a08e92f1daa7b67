use Rattle.std.proofs.Common.{arith}
use Rattle.std.proofs.lemmas.Int.{ints, clamps}
use Rattle.cov_kinds.proofs.Hulls.{moved}
use Rattle.cov_kinds.proofs.ends.hull.Goals as goal

pub between-requires : goal.between-requires
between-requires c = omega (arith, ints, clamps)

pub returns : goal.returns
returns c = moved _ _ _ _ _ (omega (arith, ints, clamps)) (omega (arith, ints, clamps)) c.between.ensures
