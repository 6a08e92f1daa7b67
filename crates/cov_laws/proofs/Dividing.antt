-- What a division leaves.
use Rattle.std.proofs.Common.{◌≢◌, ℤ, pos, ◌<◌, arith}
use Rattle.std.specs.Prelude.{unsigned_abs}
use Rattle.std.proofs.lemmas.Int.{ints}
use Rattle.cov_model.proofs.Intervals.{remainder-is}
use Rattle.cov_laws.specs.Remainders.{RemainderIsLeft}

some_amount : (b : ℤ) → b ≢ pos 0 → 0 < unsigned_abs b
some_amount b h = omega (arith, ints)

pub left_law : RemainderIsLeft
left_law a b h =
    let r = remainder-is a b (some_amount b h) in
    record {
      whole = omega (arith, ints);
      small = r.small;
      up = r.low.0;
      down = r.high.1;
    }
