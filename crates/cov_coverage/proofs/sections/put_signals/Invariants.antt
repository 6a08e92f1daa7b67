use Rattle.std.proofs.Common.{◌≡◌, take}
use Rattle.cov_coverage.specs.Puts.{Puts}
use Rattle.cov_coverage.specs.Sections.{AreSignalSections}
use Rattle.cov_ctl.specs.Formulas.{formula_of}
use Rattle.cov_coverage.proofs.sections.put_signals.Given as goal

-- the sections so far
abbrev pub invariant-loop-named : goal.invariant-loop-named
invariant-loop-named l = record {
  same : l.sys ≡ l.initial.sys;
  sections : Puts l.initial.into l.into (AreSignalSections l.limit l.m (formula_of l.f) (take l.named-index l.named-items));
}
