use Rattle.std.proofs.Common.{◌≡◌, drop}
use Rattle.cov_order.specs.Parts as parts
use Rattle.cov_conditions.specs.Marks.{with_marks}
use Rattle.cov_conditions.proofs.marks.+marking.Given as goal

-- what is left completes what is marked
abbrev pub invariant-mark_items-loop-e : goal.invariant-mark_items-loop-e
invariant-mark_items-loop-e l = with_marks l.marks (parts.item_reads (drop l.e-index l.e-items)) ≡ with_marks l.fn.marks (parts.item_reads l.e-items)

abbrev pub invariant-mark_branches-loop-b : goal.invariant-mark_branches-loop-b
invariant-mark_branches-loop-b l = with_marks l.marks (parts.branch_reads (drop l.b-index l.b-items)) ≡ with_marks l.fn.marks (parts.branch_reads l.b-items)
