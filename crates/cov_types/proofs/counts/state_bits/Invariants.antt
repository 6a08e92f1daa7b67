use Rattle.std.proofs.Common.{◌≡◌, ◌+◌, drop}
use Rattle.cov_types.specs.Roots as spec
use Rattle.cov_types.proofs.counts.state_bits.Given as goal

-- what is left completes what is counted
abbrev pub invariant-loop-x : goal.invariant-loop-x
invariant-loop-x l = l.total + spec.state_bits (drop l.x-index l.x-items) ≡ spec.state_bits l.x-items
