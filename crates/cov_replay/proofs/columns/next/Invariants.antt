use Rattle.std.proofs.Common.{◌<◌, ℕ, length}
use Rattle.cov_replay.specs.Columns.{IsNextAnswer}
use Rattle.cov_replay.proofs.columns.next.Given as goal

abbrev pub invariant-loop-p : goal.invariant-loop-p
invariant-loop-p l = (k : ℕ) → k < l.p → IsNextAnswer (length l.initial.column) l.turn l.column l.other k
