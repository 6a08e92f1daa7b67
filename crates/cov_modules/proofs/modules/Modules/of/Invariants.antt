use Rattle.std.proofs.Common.{◌≡◌, ◌++◌, map, drop}
use Rattle.cov_syntax.specs.declared.program.ModuleTree.{ModuleTree}
use Rattle.cov_modules.specs.Modules.{module_names}
use Rattle.cov_modules.proofs.modules.Modules.of.Given as goal

-- what is left completes what is found
abbrev pub invariant-loop-m : goal.invariant-loop-m
invariant-loop-m l = l.modules ++ map (λ (m : ModuleTree). m.name.name) (drop l.m-index l.p.modules) ≡ module_names l.p
