use Rattle.std.proofs.Common.{◌≡◌, length}
use Rattle.cov_order.proofs.Reaching.{IsReaching}
use Rattle.cov_order.proofs.circle.all_reached.Given as goal

abbrev pub invariant-loop-k : goal.invariant-loop-k
invariant-loop-k l = record {
  reaching : IsReaching l.reads l.i l.k l.reached.items;
  room : length l.reached.places ≡ length l.reads;
}
