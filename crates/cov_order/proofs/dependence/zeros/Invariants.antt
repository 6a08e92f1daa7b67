use Rattle.std.proofs.Common.{◌≡◌}
use Rattle.std.specs.Prelude.{replicate}
use Rattle.cov_order.proofs.dependence.zeros.Given as goal

abbrev pub invariant-loop : goal.invariant-loop
invariant-loop l = l.xs ≡ replicate l.counter 0
