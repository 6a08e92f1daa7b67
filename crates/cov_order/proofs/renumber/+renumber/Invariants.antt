use Rattle.std.proofs.Common.{◌≡◌, take}
use Rattle.cov_order.specs.Parts as spec
use Rattle.cov_order.proofs.renumber.+renumber.Given as goal

abbrev pub invariant-renumbered_all-loop-e : goal.invariant-renumbered_all-loop-e
invariant-renumbered_all-loop-e l = l.copies ≡ spec.renumbered_items l.order.items (take l.e-index l.e-items)

abbrev pub invariant-renumbered_branches-loop-b : goal.invariant-renumbered_branches-loop-b
invariant-renumbered_branches-loop-b l = l.copies ≡ spec.renumbered_branches l.order.items (take l.b-index l.b-items)
