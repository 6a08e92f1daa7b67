use Rattle.std.proofs.Common.{◌≡◌, map, drop}
use Rattle.std.specs.List.{flat_map}
use Rattle.cov_syntax.specs.declared.program.Section.{Section}
use Rattle.cov_modules.specs.Names.{first}
use Rattle.cov_modules.specs.Modules.{instance_of, instances}
use Rattle.cov_modules.specs.ModuleFaults.{wrong_place}
use Rattle.cov_modules.proofs.arguments.wrong_instance.Given as goal

-- what is left has the answer of the whole
abbrev pub invariant-loop-s : goal.invariant-loop-s
invariant-loop-s l = first (flat_map (λ (s : Section). map (wrong_place l.p) (instance_of s)) (drop l.s-index l.m.sections)) ≡ first (map (wrong_place l.p) (instances l.m))
