use Rattle.std.proofs.Common.{◌≡◌, ◌≤ℤ◌, drop}
use Rattle.cov_model.specs.Kinds.{hull_of}
use Rattle.cov_kinds.proofs.values.hull_of.Given as goal

-- what is left completes what is found
abbrev pub invariant-loop-x : goal.invariant-loop-x
invariant-loop-x l = record {
  whole : hull_of l.low l.high (drop l.x-index l.others) ≡ hull_of l.first l.first l.others;
  ordered : l.low ≤ℤ l.high;
}
