use Rattle.std.proofs.Common.{◌≡◌, ℕ, drop, ◌||◌}
use Rattle.std.specs.List.{flat_map}
use Rattle.cov_modules.specs.Names.{has}
use Rattle.cov_modules.specs.Modules.{symbols_of, module_symbols}
use Rattle.cov_paths.proofs.symbols.put_module_symbols.Given as goal

-- what is left completes what is found
abbrev pub invariant-loop-s : goal.invariant-loop-s
invariant-loop-s l = (i : ℕ) → (has (flat_map symbols_of (drop l.s-index l.m.sections)) i || has l.set i) ≡ (has (module_symbols l.m) i || has l.fn.set i)
