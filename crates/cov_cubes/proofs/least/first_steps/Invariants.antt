use Rattle.std.proofs.Common.{◌≡◌, ◌+◌, ◌∷◌, [], List, Bool, length, drop}
use Rattle.cov_classes.specs.Partition.{first_state}
use Rattle.cov_space.specs.Sets.{set_at}
use Rattle.cov_space.specs.Steps.{with_more}
use Rattle.cov_cubes.specs.States.{states_in}
use Rattle.cov_cubes.specs.Rests.{IsRestOf, states_of, after}
use Rattle.cov_cubes.proofs.least.first_steps.Given as goal

-- one set stands behind those of before: the rest set of the places so far, which begin the first state
abbrev pub invariant-loop-x : goal.invariant-loop-x
invariant-loop-x l = record {
  set : List Bool;
  is : l.sp ≡ with_more l.fn.sp (set ∷ []);
  count : length l.sp.sets ≡ length l.fn.sp.sets + 1;
  places : l.sp.places ≡ l.fn.sp.places;
  levels : l.sp.levels ≡ l.fn.sp.levels;
  rest : IsRestOf l.fn.sp.levels l.plan l.x set;
  first : after l.state (first_state (drop l.x l.plan) (states_of l.fn.sp.levels l.plan l.x set)) ≡ first_state l.plan (states_in l.plan l.fn.sp.levels (set_at l.fn.sp.sets l.set));
}
