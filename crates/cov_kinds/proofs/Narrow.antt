-- What the test of width says of an interval.
use Rattle.std.proofs.Common.{◌≡◌, ◌≤◌, IsTrue, IsFalse, nat_lt, ℤ, pos, negsuc, ◌+ℤ◌, ◌-ℤ◌, ◌≤ℤ◌, arith}
use Rattle.std.proofs.lemmas.Int.{ints}
use Rattle.cov_model.specs.Kinds.{interval, count}
use Rattle.cov_model.specs.Walk.{is_wide}

-- the ends lie within the language's limits, and at most 1,024 integers lie between them
pub record IsNarrow (a b : ℤ) : Type 0 where
  pub low : negsuc 999999 ≤ℤ a
  pub high : b ≤ℤ pos 1000000
  pub few : count a b ≤ 1024

pub narrow : (a b : ℤ) → IsFalse (is_wide (interval a b)) → IsNarrow a b
narrow a b h = record { low = grind (arith, ints); high = grind (arith, ints); few = grind (arith, ints) }

pub from_narrow : (a b : ℤ) → IsNarrow a b → IsFalse (is_wide (interval a b))
from_narrow a b h = grind (arith, ints)

pub counted : (a b : ℤ) → a ≤ℤ b → pos (count a b) ≡ (b -ℤ a) +ℤ pos 1
counted a b h = grind (arith, ints)

pub same_interval : (a b c d : ℤ) → a ≡ c → b ≡ d → interval a b ≡ interval c d
same_interval a b c d p q = cc

-- where the ends lie within the limits, too wide is too long
pub is_long : (a b : ℤ) → negsuc 999999 ≤ℤ a → b ≤ℤ pos 1000000 → IsTrue (is_wide (interval a b)) → IsTrue (nat_lt 1024 (count a b))
is_long a b p q h = grind (arith, ints)
