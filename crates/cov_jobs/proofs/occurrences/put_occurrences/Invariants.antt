use Rattle.std.proofs.Common.{◌≡◌}
use Rattle.cov_coverage.specs.Puts.{Puts}
use Rattle.cov_jobs.specs.Occurrences.{AreOccurrenceLines}
use Rattle.cov_jobs.proofs.occurrences.put_occurrences.Given as goal

-- the lines so far
abbrev pub invariant-loop-k : goal.invariant-loop-k
invariant-loop-k l = record {
  same : l.sys ≡ l.fn.sys;
  lines : Puts l.fn.into l.into (AreOccurrenceLines l.m l.f l.k);
}
