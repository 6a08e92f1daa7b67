use Rattle.std.proofs.Common.{◌≡◌, ◌++◌, ◌-◌, ◌+ℤ◌, pos}
use Rattle.cov_model.specs.Kinds.{integers}
use Rattle.cov_kinds.proofs.values.integers.Given as goal

-- what is left completes what is found
abbrev pub invariant-loop : goal.invariant-loop
invariant-loop l = record {
  whole : l.values ++ integers l.n (l.count - l.counter) ≡ integers l.low l.count;
  next : l.n ≡ l.low +ℤ pos l.counter;
}
