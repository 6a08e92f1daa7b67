use Rattle.std.proofs.Common.{◌≡◌}
use Rattle.cov_conditions.specs.Carried.{own_targets}
use Rattle.cov_conditions.proofs.condition.own_targets.Given as goal

-- the numbers so far
abbrev pub invariant-loop-k : goal.invariant-loop-k
invariant-loop-k l = l.targets ≡ own_targets l.k
