use Rattle.std.proofs.Common.{◌≡◌, length}
use Rattle.cov_model.proofs.frame.values.Given as goal

abbrev pub invariant-loop : goal.invariant-loop
invariant-loop l = length l.xs ≡ l.counter
