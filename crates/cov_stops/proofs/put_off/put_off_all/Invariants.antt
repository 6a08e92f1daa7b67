use Rattle.std.proofs.Common.{◌≡◌, ◌++◌, map, length, drop}
use Rattle.cov_stops.specs.Coming.{put_off_from, no_number}
use Rattle.cov_stops.proofs.put_off.put_off_all.Given as goal

-- what is left completes what is put off, and each has a place among the children
abbrev pub invariant-loop-i : goal.invariant-loop-i
invariant-loop-i l = record {
  below : l.below ++ put_off_from l.modules l.caller l.i (length l.children) (drop l.i l.sections) ≡ put_off_from l.modules l.caller 0 (length l.initial.children) l.sections;
  children : l.children ≡ l.initial.children ++ map no_number l.below;
}
