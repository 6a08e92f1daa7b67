use Rattle.std.proofs.Common.{◌≡◌, ◌++◌, replicate}
use Rattle.cov_report.proofs.line.put_spaces.Given as goal

-- the spaces so far
abbrev pub invariant-loop : goal.invariant-loop
invariant-loop l = l.into ≡ l.initial.into ++ replicate l.counter 32
