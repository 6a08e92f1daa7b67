use Rattle.std.proofs.Common.{◌≡◌, drop}
use Rattle.std.specs.List.{flat_map}
use Rattle.cov_modules.specs.Names.{first}
use Rattle.cov_modules.specs.ModuleFaults.{in_modules, recursive_module}
use Rattle.cov_modules.proofs.recursion.recursive_module.Given as goal

-- what is left has the answer of the whole
abbrev pub invariant-loop-m : goal.invariant-loop-m
invariant-loop-m l = first (flat_map (recursive_module l.p) (drop l.m-index l.p.modules)) ≡ in_modules l.p (recursive_module l.p)
