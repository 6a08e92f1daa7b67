use Rattle.std.proofs.Common.{◌≡◌, ◌++◌, drop}
use Rattle.cov_order.specs.Parts as spec
use Rattle.cov_order.proofs.reading.+reading.Given as goal

-- what is left completes what is found
abbrev pub invariant-add_item_reads-loop-e : goal.invariant-add_item_reads-loop-e
invariant-add_item_reads-loop-e l = l.found ++ spec.item_reads (drop l.e-index l.e-items) ≡ l.fn.found ++ spec.item_reads l.e-items

abbrev pub invariant-add_branch_reads-loop-b : goal.invariant-add_branch_reads-loop-b
invariant-add_branch_reads-loop-b l = l.found ++ spec.branch_reads (drop l.b-index l.b-items) ≡ l.fn.found ++ spec.branch_reads l.b-items
