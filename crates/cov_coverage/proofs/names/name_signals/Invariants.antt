use Rattle.std.proofs.Common.{take}
use Rattle.cov_coverage.specs.Names.{AreNamed}
use Rattle.cov_coverage.proofs.names.name_signals.Given as goal

-- the signals of the names so far
abbrev pub invariant-loop-i : goal.invariant-loop-i
invariant-loop-i l = AreNamed l.m (take l.i l.names) l.signals
