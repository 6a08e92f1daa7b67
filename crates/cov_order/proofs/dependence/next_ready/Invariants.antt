use Rattle.std.proofs.Common.{◌≡◌, length, drop}
use Rattle.cov_model.specs.Order.{next_define}
use Rattle.cov_order.specs.Tables.{ArePassed}
use Rattle.cov_order.proofs.dependence.next_ready.Given as goal

-- what is left has the answer of the whole
abbrev pub invariant-loop-i : goal.invariant-loop-i
invariant-loop-i l = record {
  left : next_define l.order.items l.i (drop l.i l.reads) ≡ next_define l.order.items 0 l.reads;
  room : length l.passed ≡ length l.reads;
  passed : ArePassed l.order.items l.passed l.reads;
}
