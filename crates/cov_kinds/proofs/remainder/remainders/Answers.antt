use Rattle.std.proofs.Common.{arith}
use Rattle.std.proofs.lemmas.Int.{ints}
use Rattle.cov_kinds.proofs.Hulls.{moved_remainders}
use Rattle.cov_kinds.proofs.remainder.remainders.Goals as goal

pub returns : goal.returns
returns c = moved_remainders _ _ _ _ _ c.args.a.low c.args.a.high _ _ c.between.ensures c.least.ensures.value c.greatest.ensures.value c.reach-reach.ensures.value (omega (arith, ints)) (omega (arith, ints))
