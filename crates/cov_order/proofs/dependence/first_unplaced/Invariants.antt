use Rattle.std.proofs.Common.{◌-◌, IsTrue, length, take}
use Rattle.std.specs.List.{list_all}
use Rattle.cov_model.specs.Order.{has}
use Rattle.cov_order.proofs.dependence.first_unplaced.Given as goal

abbrev pub invariant-loop-k : goal.invariant-loop-k
invariant-loop-k l = IsTrue (list_all (has l.order.items) (take l.k l.js))

abbrev pub decreases-loop-k : goal.decreases-loop-k
decreases-loop-k l = length l.js - l.k
