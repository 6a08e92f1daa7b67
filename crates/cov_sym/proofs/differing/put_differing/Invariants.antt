use Rattle.std.proofs.Common.{◌≡◌, ◌≤◌, ◌+◌, ◌∷◌, [], length}
use Rattle.cov_bits.specs.Layout.{bits}
use Rattle.cov_space.specs.Steps.{with_more}
use Rattle.cov_sym.proofs.Differences.{differing_from}
use Rattle.cov_sym.proofs.differing.put_differing.Given as goal

-- the rows whose states differ from bit b on
abbrev pub invariant-loop-b : goal.invariant-loop-b
invariant-loop-b l = record {
  is : l.sp ≡ with_more l.fn.sp (differing_from l.fn.sp.levels l.b ∷ []);
  count : length l.sp.sets ≡ length l.fn.sp.sets + 1;
  places : l.sp.places ≡ l.fn.sp.places;
  levels : l.sp.levels ≡ l.fn.sp.levels;
  within : l.b ≤ bits l.plan;
}

abbrev pub decreases-loop-b : goal.decreases-loop-b
decreases-loop-b l = l.b
