use Rattle.std.proofs.Common.{◌≡◌, map, drop}
use Rattle.std.specs.List.{flat_map}
use Rattle.cov_syntax.specs.declared.program.Section.{Section}
use Rattle.cov_modules.specs.Names.{first}
use Rattle.cov_modules.specs.Modules.{instance_of}
use Rattle.cov_modules.specs.ModuleFaults.{unknown_place, unknown_module}
use Rattle.cov_modules.proofs.instances.unknown_in.Given as goal

-- what is left has the answer of the whole
abbrev pub invariant-loop-s : goal.invariant-loop-s
invariant-loop-s l = first (flat_map (λ (s : Section). map (unknown_place l.p) (instance_of s)) (drop l.s-index l.m.sections)) ≡ first (unknown_module l.p l.m)
