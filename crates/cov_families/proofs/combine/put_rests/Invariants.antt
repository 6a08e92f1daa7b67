use Rattle.std.proofs.Common.{◌≡◌, ◌+◌, length}
use Rattle.cov_space.specs.Sets.{set_at}
use Rattle.cov_space.specs.Steps.{with_more}
use Rattle.cov_fields.specs.Sets.{rest_set}
use Rattle.cov_families.specs.Steps.{in_turn}
use Rattle.cov_families.proofs.combine.put_rests.Given as goal

-- the rest sets of the numbers so far stand behind the sets of before
abbrev pub invariant-loop-j : goal.invariant-loop-j
invariant-loop-j l = record {
  is : l.sp ≡ with_more l.fn.sp (in_turn l.j (λ j. rest_set l.fn.sp.levels l.field j (set_at l.fn.sp.sets l.set)));
  count : length l.sp.sets ≡ length l.fn.sp.sets + l.j;
  places : l.sp.places ≡ l.fn.sp.places;
  levels : l.sp.levels ≡ l.fn.sp.levels;
}
