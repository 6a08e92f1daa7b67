use Rattle.std.proofs.Common.{map, drop}
use Rattle.cov_modules.specs.Sizes as spec
use Rattle.cov_modules.proofs.SizeLemmas.{IsCounting}
use Rattle.cov_modules.proofs.sizes.grown.Given as goal

abbrev pub invariant-loop-i : goal.invariant-loop-i
invariant-loop-i l = IsCounting (map (spec.size_at l.sizes) (drop l.i-index l.below)) l.size (spec.grown l.sizes l.fn.whole l.below)
