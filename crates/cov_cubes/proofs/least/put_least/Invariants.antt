use Rattle.std.proofs.Common.{◌≡◌}
use Rattle.cov_space.specs.Sets.{set_at}
use Rattle.cov_cubes.specs.Rests.{AllEmpty}
use Rattle.cov_cubes.proofs.least.put_least.Given as goal

-- the sets are as before, and none of the values so far has a rest set with a row
abbrev pub invariant-loop-v : goal.invariant-loop-v
invariant-loop-v l = record {
  kept : l.sp ≡ l.fn.sp;
  none : AllEmpty l.fn.sp.levels l.field (set_at l.fn.sp.sets l.set) l.v;
}
