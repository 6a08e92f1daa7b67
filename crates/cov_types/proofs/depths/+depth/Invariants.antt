use Rattle.std.proofs.Common.{◌≡◌, ◌≤◌, max, min, drop}
use Rattle.cov_types.specs.Depths as spec
use Rattle.cov_types.proofs.depths.+depth.Given as goal

-- what is left completes what is found
abbrev pub invariant-all_depth-loop-e : goal.invariant-all_depth-loop-e
invariant-all_depth-loop-e l = record {
  left : min (max l.most (spec.all_depth (drop l.e-index l.e-items))) 4294967295 ≡ min (spec.all_depth l.e-items) 4294967295;
  fits : l.most ≤ 4294967295;
}

abbrev pub invariant-all_branch_depth-loop-b : goal.invariant-all_branch_depth-loop-b
invariant-all_branch_depth-loop-b l = record {
  left : min (max l.most (spec.all_branch_depth (drop l.b-index l.b-items))) 4294967295 ≡ min (spec.all_branch_depth l.b-items) 4294967295;
  fits : l.most ≤ 4294967295;
}
