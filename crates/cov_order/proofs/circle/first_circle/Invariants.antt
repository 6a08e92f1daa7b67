use Rattle.std.proofs.Common.{◌≡◌, drop}
use Rattle.cov_model.specs.Order.{circular, circular_from, reads_of}
use Rattle.cov_order.proofs.circle.first_circle.Given as goal

-- what is left has the answer of the whole
abbrev pub invariant-loop-i : goal.invariant-loop-i
invariant-loop-i l = circular_from (reads_of l.defines) l.i (drop l.i l.defines) ≡ circular l.defines
