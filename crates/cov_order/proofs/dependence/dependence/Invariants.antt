use Rattle.std.proofs.Common.{◌≡◌, ◌-◌, length}
use Rattle.cov_model.specs.Order.{placed_after, dependence}
use Rattle.cov_order.specs.Tables.{ArePassed}
use Rattle.cov_order.proofs.dependence.dependence.Given as goal

-- what is left to place completes the order
abbrev pub invariant-loop : goal.invariant-loop
invariant-loop l = record {
  left : placed_after (length l.reads - l.counter) l.reads l.order.items ≡ dependence l.reads;
  places : length l.order.places ≡ length l.reads;
  room : length l.passed ≡ length l.reads;
  passed : ArePassed l.order.items l.passed l.reads;
}
