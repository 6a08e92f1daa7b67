use Rattle.std.proofs.Common.{◌≡◌, ◌+◌, length}
use Rattle.cov_space.specs.Steps.{with_more}
use Rattle.cov_fields.specs.Sets.{number_set}
use Rattle.cov_families.specs.Steps.{in_turn}
use Rattle.cov_families.proofs.combine.put_codes.Given as goal

-- the codes of the numbers so far stand behind the sets of before
abbrev pub invariant-loop-k : goal.invariant-loop-k
invariant-loop-k l = record {
  is : l.sp ≡ with_more l.fn.sp (in_turn l.k (number_set l.fn.sp.levels l.field));
  count : length l.sp.sets ≡ length l.fn.sp.sets + l.k;
  places : l.sp.places ≡ l.fn.sp.places;
  levels : l.sp.levels ≡ l.fn.sp.levels;
}
