use Rattle.std.proofs.Common.{map, drop}
use Rattle.cov_modules.specs.Sizes as spec
use Rattle.cov_syntax.specs.declared.program.Section.{Section}
use Rattle.cov_modules.specs.Modules.{instance_of}
use Rattle.cov_modules.proofs.SizeLemmas.{IsCounting}
use Rattle.cov_modules.proofs.sizes.instances_size.Given as goal

abbrev pub invariant-loop-s : goal.invariant-loop-s
invariant-loop-s l = IsCounting (map (λ (s : Section). spec.total (map spec.given_size (instance_of s))) (drop l.s-index l.m.sections)) l.size (spec.capped (spec.instances_size l.m))
