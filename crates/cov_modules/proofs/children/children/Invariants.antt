use Rattle.std.proofs.Common.{◌≡◌, ◌++◌, map, drop}
use Rattle.cov_modules.specs.Modules.{module_names}
use Rattle.cov_modules.specs.Ranks.{children_of, children}
use Rattle.cov_modules.proofs.children.children.Given as goal

-- what is left completes what is found
abbrev pub invariant-loop-m : goal.invariant-loop-m
invariant-loop-m l = l.all ++ map (children_of (module_names l.p)) (drop l.m-index l.p.modules) ≡ children l.p
