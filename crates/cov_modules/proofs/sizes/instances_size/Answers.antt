use Rattle.std.proofs.Common.{map, subst}
use Rattle.cov_syntax.specs.declared.program.Section.{Section}
use Rattle.cov_modules.specs.Modules.{instance_of}
use Rattle.cov_modules.specs.Sizes.{size, total, capped, given_size}
use Rattle.cov_modules.proofs.SizeLemmas.{IsCounting, counting-start, total-flat}
use Rattle.cov_modules.proofs.sizes.instances_size.Goals as goal

pub loop-s-init : goal.loop-s-init
loop-s-init c =
    subst (λ a. IsCounting (map (λ (s : Section). total (map given_size (instance_of s))) c.args.m.now.sections) (size 0 0) (capped a))
    (total-flat given_size instance_of c.args.m.now.sections)
    (counting-start (map (λ (s : Section). total (map given_size (instance_of s))) c.args.m.now.sections))
