use Rattle.std.proofs.Common.{◌≡◌, max, drop}
use Rattle.cov_types.specs.Roots as spec
use Rattle.cov_types.proofs.counts.widest_variable.Given as goal

-- what is left completes what is found
abbrev pub invariant-loop-x : goal.invariant-loop-x
invariant-loop-x l = max l.most (spec.widest_variable (drop l.x-index l.x-items)) ≡ spec.widest_variable l.x-items
