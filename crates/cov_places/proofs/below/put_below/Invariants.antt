use Rattle.std.proofs.Common.{◌≡◌, ◌+◌, ◌∷◌, [], length}
use Rattle.cov_space.specs.Steps.{with_more}
use Rattle.cov_places.specs.Steps.{below_set}
use Rattle.cov_places.proofs.below.put_below.Given as goal

-- one set stands behind those of before: the rows that hold a number so far
abbrev pub invariant-loop-k : goal.invariant-loop-k
invariant-loop-k l = record {
  is : l.sp ≡ with_more l.fn.sp (below_set l.fn.sp.levels l.field l.k ∷ []);
  count : length l.sp.sets ≡ length l.fn.sp.sets + 1;
  places : l.sp.places ≡ l.fn.sp.places;
  levels : l.sp.levels ≡ l.fn.sp.levels;
}
