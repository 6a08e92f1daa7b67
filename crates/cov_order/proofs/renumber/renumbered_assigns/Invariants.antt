use Rattle.std.proofs.Common.{◌≡◌, map, take}
use Rattle.cov_model.specs.Order.{renumbered, with_assigned}
use Rattle.cov_order.proofs.renumber.renumbered_assigns.Given as goal

abbrev pub invariant-loop-a : goal.invariant-loop-a
invariant-loop-a l = l.copies ≡ map (with_assigned (renumbered l.order.items)) (take l.a-index l.a-items)
