use Rattle.std.proofs.Common.{◌≡◌, fold, map, drop}
use Rattle.std.specs.List.{flat_map}
use Rattle.cov_modules.specs.Names.{HasSame, with_name}
use Rattle.cov_modules.specs.Modules.{Declaration, instance_of}
use Rattle.cov_modules.specs.ModuleFaults.{module_names_in}
use Rattle.cov_modules.proofs.reach.add_instances.Given as goal

-- what is left completes what is found
abbrev pub invariant-loop-s : goal.invariant-loop-s
invariant-loop-s l = record {
  same : HasSame l.seen l.found;
  found : fold with_name l.found (map (λ (d : Declaration). d.from.name) (flat_map instance_of (drop l.s-index l.m.sections))) ≡ fold with_name l.fn.found (module_names_in l.m);
}
