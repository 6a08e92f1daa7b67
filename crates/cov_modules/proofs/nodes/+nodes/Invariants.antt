use Rattle.std.proofs.Common.{◌≡◌, ◌+◌, ◌≤◌, min, drop}
use Rattle.cov_modules.specs.Counts as spec
use Rattle.cov_modules.proofs.nodes.+nodes.Given as goal

-- what is left completes what is counted
abbrev pub invariant-all_nodes-loop-e : goal.invariant-all_nodes-loop-e
invariant-all_nodes-loop-e l = record {
  left : min (l.sum + spec.all_nodes (drop l.e-index l.e-items)) 4294967295 ≡ min (spec.all_nodes l.e-items) 4294967295;
  fits : l.sum ≤ 4294967295;
}

abbrev pub invariant-all_branch_nodes-loop-b : goal.invariant-all_branch_nodes-loop-b
invariant-all_branch_nodes-loop-b l = record {
  left : min (l.sum + spec.all_branch_nodes (drop l.b-index l.b-items)) 4294967295 ≡ min (spec.all_branch_nodes l.b-items) 4294967295;
  fits : l.sum ≤ 4294967295;
}
