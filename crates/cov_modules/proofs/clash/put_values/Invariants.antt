use Rattle.std.proofs.Common.{◌≡◌, ℕ, drop, ◌||◌}
use Rattle.std.specs.List.{flat_map}
use Rattle.cov_modules.specs.Names.{has}
use Rattle.cov_modules.specs.Modules.{symbol_of}
use Rattle.cov_modules.proofs.clash.put_values.Given as goal

-- what is left completes what is found
abbrev pub invariant-loop-x : goal.invariant-loop-x
invariant-loop-x l = (i : ℕ) → (has (flat_map symbol_of (drop l.x-index l.values)) i || has l.set i) ≡ (has (flat_map symbol_of l.values) i || has l.fn.set i)
