use Rattle.std.proofs.Common.{◌≡◌, drop}
use Rattle.std.specs.List.{flat_map}
use Rattle.cov_modules.specs.Names.{first}
use Rattle.cov_modules.specs.ModuleFaults.{in_modules, name_clash}
use Rattle.cov_modules.proofs.clash.name_clash.Given as goal

-- what is left has the answer of the whole
abbrev pub invariant-loop-m : goal.invariant-loop-m
invariant-loop-m l = first (flat_map name_clash (drop l.m-index l.p.modules)) ≡ in_modules l.p name_clash
