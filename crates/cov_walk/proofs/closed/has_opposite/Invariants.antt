use Rattle.std.proofs.Common.{◌≡◌, drop}
use Rattle.cov_walk.specs.Closed as spec
use Rattle.cov_walk.proofs.closed.has_opposite.Given as goal

abbrev pub invariant-loop-b : goal.invariant-loop-b
invariant-loop-b l = spec.has_opposite l.guard (drop l.b-index l.branches) ≡ spec.has_opposite l.guard l.branches
