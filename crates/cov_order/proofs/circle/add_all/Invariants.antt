use Rattle.std.proofs.Common.{◌≡◌, length, drop}
use Rattle.cov_order.specs.Reach.{grown}
use Rattle.cov_order.proofs.circle.add_all.Given as goal

-- what is left completes what is added
abbrev pub invariant-loop-j : goal.invariant-loop-j
invariant-loop-j l = record {
  left : grown l.reached.items (drop l.j-index l.js) ≡ grown l.fn.reached.items l.js;
  room : length l.reached.places ≡ length l.fn.reached.places;
}
