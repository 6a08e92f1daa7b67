use Rattle.std.proofs.Common.{◌≡◌, ◌≤◌, count_by, take}
use Rattle.cov_stops.specs.Counted.{is_define}
use Rattle.cov_stops.proofs.counts.defines.Given as goal

-- those met so far are counted
abbrev pub invariant-loop-s : goal.invariant-loop-s
invariant-loop-s l = record {
  so_far : l.count ≡ count_by is_define (take l.s-index l.sections);
  few : l.count ≤ l.s-index;
}
