use Rattle.std.proofs.Common.{map, drop}
use Rattle.cov_modules.specs.Sizes as spec
use Rattle.cov_modules.proofs.SizeLemmas.{IsCounting}
use Rattle.cov_modules.proofs.sizes.own_size.Given as goal

abbrev pub invariant-loop-s : goal.invariant-loop-s
invariant-loop-s l = IsCounting (map spec.section_size (drop l.s-index l.m.sections)) l.size (spec.capped (spec.own_size l.m))
