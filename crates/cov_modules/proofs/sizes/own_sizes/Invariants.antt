use Rattle.std.proofs.Common.{◌≡◌, ◌++◌, map, drop}
use Rattle.cov_syntax.specs.declared.program.ModuleTree.{ModuleTree}
use Rattle.cov_modules.specs.Sizes as spec
use Rattle.cov_modules.proofs.sizes.own_sizes.Given as goal

-- what is left completes what is counted
abbrev pub invariant-loop-m : goal.invariant-loop-m
invariant-loop-m l = l.sizes ++ map (λ (m : ModuleTree). spec.capped (spec.own_size m)) (drop l.m-index l.p.modules) ≡ spec.own_sizes l.p
