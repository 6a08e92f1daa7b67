-- A join has as many values as the first of the two at least.
use Rattle.std.proofs.Common.{◌≡◌, ℕ, zero, suc, ◌≤◌, ℤ, pos, ◌+ℤ◌, ◌≤ℤ◌, Bool, true, false, not, ◌&&◌, IsTrue, IsFalse, nat_lt, length, refl, ap, arith}
use Rattle.std.specs.Int.{int_min, int_max}
use Rattle.std.proofs.lemmas.Int.{ints, clamps}
use Rattle.cov_model.specs.Kinds.{Kind, boolean, interval, among, is_boolean, values_of, integers, count, width, join}
use Rattle.cov_model.specs.Walk.{is_wide}
use Rattle.cov_kinds.specs.Seen.{is_joinable}
use Rattle.cov_kinds.proofs.Steps.{united_longer}
use Rattle.cov_kinds.proofs.Narrow.{narrow}

count_longer : (a b c d : ℤ) → c ≤ℤ a → b ≤ℤ d → count a b ≤ count c d
count_longer a b c d p q = grind (arith, ints)

integers_length : (n : ℕ) (a : ℤ) → length (integers a n) ≡ n
integers_length zero a = refl
integers_length (suc n) a = ap suc (integers_length n (a +ℤ pos 1))

pub join_longer : (k l : Kind) → is_boolean k ≡ false → is_boolean l ≡ false → width k ≤ width (join k l)
join_longer boolean l h g = cc
join_longer (interval a b) boolean h g = cc
join_longer (among xs) boolean h g = cc
join_longer (interval a b) (interval c d) h g = count_longer a b (int_min a c) (int_max b d) (omega (arith, ints, clamps)) (omega (arith, ints, clamps))
join_longer (interval a b) (among ys) h g = omega (arith, united_longer ys (integers a (count a b)), integers_length (count a b) a)
join_longer (among xs) (interval c d) h g = united_longer (values_of (interval c d)) xs
join_longer (among xs) (among ys) h g = united_longer ys xs

pub join_no_boolean : (k l : Kind) → is_boolean k ≡ false → is_boolean l ≡ false → is_boolean (join k l) ≡ false
join_no_boolean boolean l h g = cc
join_no_boolean (interval a b) boolean h g = cc
join_no_boolean (among xs) boolean h g = cc
join_no_boolean (interval a b) (interval c d) h g = refl
join_no_boolean (interval a b) (among ys) h g = refl
join_no_boolean (among xs) (interval c d) h g = refl
join_no_boolean (among xs) (among ys) h g = refl

pub long_wide : (k : Kind) → is_boolean k ≡ false → IsTrue (nat_lt 1024 (width k)) → IsTrue (is_wide k)
long_wide boolean h g = cc
long_wide (interval a b) h g = grind (arith, ints)
long_wide (among xs) h g = grind arith

-- a kind that is not too wide has at most 1,024 values
pub few_values : (k : Kind) → IsFalse (is_wide k) → length (values_of k) ≤ 1024
few_values boolean h = omega arith
few_values (interval a b) h = let e = integers_length (count a b) a in let n = narrow a b h in omega (arith, n.few)
few_values (among xs) h = grind arith

pub joinable_split : (k : Kind) → IsTrue (is_joinable k) → (is_boolean k ≡ false) × IsFalse (is_wide k)
joinable_split k h = by (is_boolean k) (is_wide k) h
  where
    by : (b w : Bool) → IsTrue (not b && not w) → (b ≡ false) × IsFalse w
    by true w h = cc
    by false true h = cc
    by false false h = (refl, refl)

pub joinable : (k : Kind) → is_boolean k ≡ false → IsFalse (is_wide k) → IsTrue (is_joinable k)
joinable k h g = rw (h, g) refl

pub longer_join : (k l : Kind) → is_boolean k ≡ false → is_boolean l ≡ false → IsTrue (nat_lt 1024 (width k)) → IsTrue (nat_lt 1024 (width (join k l)))
longer_join k l h g w = let e = join_longer k l h g in grind arith
