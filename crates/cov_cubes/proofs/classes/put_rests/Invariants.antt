use Rattle.std.proofs.Common.{◌≡◌, ◌+◌, length, map}
use Rattle.cov_classes.specs.Cubes.{values}
use Rattle.cov_space.specs.Sets.{set_at}
use Rattle.cov_space.specs.Steps.{with_more}
use Rattle.cov_fields.specs.Sets.{rest_set}
use Rattle.cov_cubes.proofs.classes.put_rests.Given as goal

-- the rest sets of the values so far stand behind the sets of before
abbrev pub invariant-loop-v : goal.invariant-loop-v
invariant-loop-v l = record {
  is : l.sp ≡ with_more l.fn.sp (map (λ v. rest_set l.fn.sp.levels l.field v (set_at l.fn.sp.sets l.set)) (values l.v));
  count : length l.sp.sets ≡ length l.fn.sp.sets + l.v;
  places : l.sp.places ≡ l.fn.sp.places;
  levels : l.sp.levels ≡ l.fn.sp.levels;
}
