use Rattle.std.proofs.Common.{◌≡◌, ◌+◌, ◌∷◌, [], length, take}
use Rattle.cov_bits.specs.Layout as layout
use Rattle.cov_space.specs.Steps.{with_more}
use Rattle.cov_places.specs.Places.{typed_set}
use Rattle.cov_places.proofs.typed.typed_steps.Given as goal

-- one set stands behind those of before: the rows whose places of the variables so far are theirs
abbrev pub invariant-loop-x : goal.invariant-loop-x
invariant-loop-x l = record {
  is : l.sp ≡ with_more l.fn.sp (typed_set l.fn.sp.levels (take l.x-index l.plan) l.layer ∷ []);
  count : length l.sp.sets ≡ length l.fn.sp.sets + 1;
  places : l.sp.places ≡ l.fn.sp.places;
  levels : l.sp.levels ≡ l.fn.sp.levels;
  first : l.first ≡ layout.first l.plan l.x-index;
}
