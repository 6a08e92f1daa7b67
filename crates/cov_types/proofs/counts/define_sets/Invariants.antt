use Rattle.std.proofs.Common.{◌≡◌, ◌≤◌, ◌+◌, ◌*◌, drop}
use Rattle.cov_types.specs.Roots as spec
use Rattle.cov_types.proofs.counts.define_sets.Given as goal

-- what is left completes what is counted
abbrev pub invariant-loop-d : goal.invariant-loop-d
invariant-loop-d l = record {
  left : l.total + spec.define_sets l.kinds (drop l.d-index l.d-items) ≡ spec.define_sets l.kinds l.d-items;
  few : l.total ≤ 1024 * l.d-index;
}
