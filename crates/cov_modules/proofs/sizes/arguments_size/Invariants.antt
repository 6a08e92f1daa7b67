use Rattle.std.proofs.Common.{map, drop}
use Rattle.cov_modules.specs.Sizes as spec
use Rattle.cov_modules.proofs.SizeLemmas.{IsCounting}
use Rattle.cov_modules.proofs.sizes.arguments_size.Given as goal

abbrev pub invariant-loop-e : goal.invariant-loop-e
invariant-loop-e l = IsCounting (map spec.argument_size (drop l.e-index l.given)) l.size (spec.capped (spec.total (map spec.argument_size l.given)))
