use Rattle.std.proofs.Common.{◌≡◌, ◌+◌, ◌∷◌, [], length}
use Rattle.cov_space.specs.Sets.{set_at}
use Rattle.cov_space.specs.Steps.{with_more}
use Rattle.cov_fields.specs.Steps.{rest_from}
use Rattle.cov_fields.proofs.sets.restrict_steps.Given as goal

-- one set stands behind those of before: the set with the last digits written
abbrev pub invariant-loop-w : goal.invariant-loop-w
invariant-loop-w l = record {
  is : l.sp ≡ with_more l.fn.sp (rest_from l.fn.sp.levels l.field l.k l.w (set_at l.fn.sp.sets l.set) ∷ []);
  count : length l.sp.sets ≡ length l.fn.sp.sets + 1;
  places : l.sp.places ≡ l.fn.sp.places;
  levels : l.sp.levels ≡ l.fn.sp.levels;
}
