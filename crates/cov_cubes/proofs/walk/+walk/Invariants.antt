use Rattle.std.proofs.Common.{◌≡◌, ◌≤◌, ◌-◌, ◌+◌, false, length, take, drop, get_or}
use Rattle.std.specs.Prelude.{flat_map}
use Rattle.cov_space.specs.Sets.{set_at}
use Rattle.cov_cubes.specs.Rests.{states_of}
use Rattle.cov_cubes.specs.Steps.{added, behind, classes_of}
use Rattle.cov_cubes.proofs.Gathered.{cubes_of}
use Rattle.cov_cubes.proofs.walk.+walk.Given as goal

abbrev pub decreases-walk : goal.decreases-walk
decreases-walk l = length l.plan.now - l.x

-- the sets are as before, and the cubes of the classes so far are added
abbrev pub invariant-loop-i : goal.invariant-loop-i
invariant-loop-i l = record {
  kept : l.sp ≡ l.fn.sp;
  found : l.found ≡ record l.fn.found { list = added l.fn.found.limit l.fn.found.list (behind l.fn.found.front (flat_map (cubes_of (drop (l.x + 1) l.plan) (states_of l.fn.sp.levels l.plan l.x (set_at l.fn.sp.sets l.set))) (take l.i (classes_of (get_or l.plan l.x 0) (drop (l.x + 1) l.plan) (states_of l.fn.sp.levels l.plan l.x (set_at l.fn.sp.sets l.set)))))) };
  more : l.found.list.more ≡ false;
  few : length l.found.list.cubes ≤ l.found.limit;
}
