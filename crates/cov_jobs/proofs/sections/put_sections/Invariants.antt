use Rattle.std.proofs.Common.{◌≡◌}
use Rattle.cov_coverage.specs.Puts.{Puts}
use Rattle.cov_jobs.specs.Specifications.{AreSections}
use Rattle.cov_jobs.proofs.sections.put_sections.Given as goal

-- the sections so far
abbrev pub invariant-loop-place : goal.invariant-loop-place
invariant-loop-place l = record {
  same : l.sys ≡ l.fn.sys;
  sections : Puts l.fn.into l.into (AreSections l.detail l.m l.place l.passes);
}
