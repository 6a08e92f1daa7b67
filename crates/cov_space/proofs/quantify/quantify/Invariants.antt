use Rattle.std.proofs.Common.{◌≡◌, ◌≤◌, ◌++◌, ◌∷◌, [], length, take, drop}
use Rattle.cov_space.specs.Sets.{set_at}
use Rattle.cov_space.specs.Operations.{projection}
use Rattle.cov_space.proofs.quantify.quantify.Given as goal

abbrev pub invariant-loop-i : goal.invariant-loop-i
invariant-loop-i l = record {
  within : l.i ≤ length l.levels;
  is : l.space ≡ record l.fn.space { sets = take l.n l.fn.space.sets ++ projection l.fn.space.levels (drop l.i l.levels) (set_at l.fn.space.sets l.n) ∷ [] };
}

abbrev pub decreases-loop-i : goal.decreases-loop-i
decreases-loop-i l = l.i
