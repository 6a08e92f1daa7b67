use Rattle.std.proofs.Common.{◌≡◌, ◌+◌, ◌∷◌, [], length}
use Rattle.cov_space.specs.Steps.{with_more}
use Rattle.cov_fields.specs.Steps.{number_from}
use Rattle.cov_fields.proofs.sets.number_steps.Given as goal

-- one set stands behind those of before: it has the rows that hold the last digits
abbrev pub invariant-loop-w : goal.invariant-loop-w
invariant-loop-w l = record {
  is : l.sp ≡ with_more l.fn.sp (number_from l.fn.sp.levels l.field l.k l.w ∷ []);
  count : length l.sp.sets ≡ length l.fn.sp.sets + 1;
  places : l.sp.places ≡ l.fn.sp.places;
  levels : l.sp.levels ≡ l.fn.sp.levels;
}
