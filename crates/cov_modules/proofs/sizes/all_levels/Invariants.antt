use Rattle.std.proofs.Common.{◌≡◌, ◌-◌}
use Rattle.cov_modules.specs.Sizes as spec
use Rattle.cov_modules.proofs.sizes.all_levels.Given as goal

-- the levels that are left complete what is counted
abbrev pub invariant-loop-level : goal.invariant-loop-level
invariant-loop-level l = spec.grown_times (l.levels - l._level) l.sizes l.wholes l.children ≡ spec.grown_times l.levels l.fn.own l.wholes l.children
