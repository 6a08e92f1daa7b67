use Rattle.std.proofs.Common.{◌≡◌, ℕ, drop, ◌||◌}
use Rattle.std.specs.List.{flat_map}
use Rattle.cov_modules.specs.Names.{has}
use Rattle.cov_modules.specs.Modules as spec
use Rattle.cov_paths.proofs.symbols.symbols.Given as goal

-- what is left completes what is found
abbrev pub invariant-loop-m : goal.invariant-loop-m
invariant-loop-m l = (i : ℕ) → (has (flat_map spec.module_symbols (drop l.m-index l.p.modules)) i || has l.set i) ≡ has (spec.symbols l.p) i
