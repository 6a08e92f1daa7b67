use Rattle.std.proofs.Common.{◌≡◌, ◌++◌, drop}
use Rattle.std.specs.List.{flat_map}
use Rattle.cov_modules.specs.Modules.{instance_of}
use Rattle.cov_modules.specs.Ranks.{child, children_of}
use Rattle.cov_modules.proofs.children.children_of.Given as goal

-- what is left completes what is found
abbrev pub invariant-loop-s : goal.invariant-loop-s
invariant-loop-s l = l.places ++ flat_map (child l.modules) (flat_map instance_of (drop l.s-index l.m.sections)) ≡ children_of l.modules l.m
