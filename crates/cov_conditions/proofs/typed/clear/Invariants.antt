use Rattle.std.proofs.Common.{◌≡◌, ◌+◌, ◌∷◌, [], length}
use Rattle.cov_space.specs.Sets.{set_at}
use Rattle.cov_space.specs.Steps.{with_more}
use Rattle.cov_conditions.specs.Fixed.{first_sets, cleared_set}
use Rattle.cov_conditions.proofs.typed.clear.Given as goal

-- one set stands last: that of before with so many bits cleared
abbrev pub invariant-loop-b : goal.invariant-loop-b
invariant-loop-b l = record {
  is : l.sp ≡ with_more (first_sets l.fn.sp l.n) (cleared_set l.fn.sp.levels l.fn.layer l.b (set_at l.fn.sp.sets l.n) ∷ []);
  count : length l.sp.sets ≡ l.n + 1;
  places : l.sp.places ≡ l.fn.sp.places;
  levels : l.sp.levels ≡ l.fn.sp.levels;
}
