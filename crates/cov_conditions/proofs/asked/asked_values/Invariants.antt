use Rattle.std.proofs.Common.{◌≡◌, ◌-◌, map, take, drop}
use Rattle.cov_conditions.specs.Asked.{asked}
use Rattle.cov_conditions.proofs.asked.asked_values.Given as goal

-- the values so far are asked
abbrev pub invariant-loop-k : goal.invariant-loop-k
invariant-loop-k l = l.xs ≡ map (asked l.inverted) (take (l.k - l.first) (drop l.first l.values))
