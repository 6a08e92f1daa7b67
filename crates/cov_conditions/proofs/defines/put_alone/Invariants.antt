use Rattle.std.proofs.Common.{◌≡◌, None}
use Rattle.cov_conditions.proofs.Gathering.{Gathered}
use Rattle.cov_conditions.proofs.defines.put_alone.Given as goal

-- the sets of the DEFINEs so far stand behind those of before
abbrev pub invariant-loop-i : goal.invariant-loop-i
invariant-loop-i l = record {
  gathered : Gathered l.fn.sp l.sp l.m l.fn.layer None l.marks l.i l.here;
  places : l.sp.places ≡ l.fn.sp.places;
  levels : l.sp.levels ≡ l.fn.sp.levels;
}
