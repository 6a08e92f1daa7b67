use Rattle.std.proofs.Common.{◌≡◌, ◌≤◌, max, min, drop}
use Rattle.cov_types.specs.Roots as spec
use Rattle.cov_types.proofs.counts.greatest_size.Given as goal

-- what is left completes what is found
abbrev pub invariant-loop-e : goal.invariant-loop-e
invariant-loop-e l = record {
  left : min (max l.most (spec.greatest_size (drop l.e-index l.e-items))) 4097 ≡ min (spec.greatest_size l.e-items) 4097;
  fits : l.most ≤ 4097;
}
