-- A law of division: a dividend is the divisor times the quotient, and the remainder.
use Rattle.std.specs.Prelude.{◌≡◌, ◌≢◌, ℤ, pos, ◌+ℤ◌, ◌*ℤ◌, ◌≤ℤ◌, ◌<◌, int_div, unsigned_abs}
use Rattle.cov_model.specs.Values.{remainder}

-- what is left of a by b: smaller in amount than b, and with the sign of a or zero
pub record IsLeft (a b : ℤ) : Type 0 where
  pub whole : a ≡ (b *ℤ int_div a b) +ℤ remainder a b
  pub small : unsigned_abs (remainder a b) < unsigned_abs b
  pub up : pos 0 ≤ℤ a → pos 0 ≤ℤ remainder a b
  pub down : a ≤ℤ pos 0 → remainder a b ≤ℤ pos 0

-- so it is by every divisor but zero
abbrev pub RemainderIsLeft : Type 0
RemainderIsLeft = (a b : ℤ) → b ≢ pos 0 → IsLeft a b
