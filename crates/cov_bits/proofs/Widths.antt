-- The width of a variable is the least number of bits that holds its last place.
use Rattle.std.proofs.Common.{◌≡◌, ◌<◌, ◌≤◌, ◌+◌, ◌-◌, ◌*◌, ◌/◌, ◌^◌, ℕ, zero, suc, Bool, true, false, ◌==◌, if◌then◌else◌, ◌⊎◌, inl, inr, refl, arith}
use Rattle.std.proofs.lemmas.Nat.{pow-add}
use Rattle.std.proofs.lemmas.Bool.{eqb-true, eqb-false, cases_lt}
use Rattle.std.proofs.Math.Nat.{pow-suc, pow-le-pow_right}
use Rattle.cov_model.specs.Types.{digits}
use Rattle.cov_bits.specs.Layout.{width}

pub digits_hold : (most k : ℕ) → k ≤ most → k < 2 ^ digits most k
digits_hold zero k h = omega arith
digits_hold (suc most) k h = by (k == 0) refl (λ g. digits_hold most (k / 2) (omega arith))
  where
    by : (b : Bool) → (k == 0) ≡ b → (0 < k → k / 2 < 2 ^ digits most (k / 2)) → k < 2 ^ (if b then 0 else 1 + digits most (k / 2))
    by true e g = let z : k ≡ 0 = eqb-true k 0 e in omega arith
    by false e g =
        let some : k ≡ 0 → ⊥ = eqb-false k 0 e in
        let half : k / 2 < 2 ^ digits most (k / 2) = g (omega arith) in
        omega (arith, pow-add 2 1 (digits most (k / 2)))

pub digits_least : (most k w : ℕ) → k < 2 ^ w → digits most k ≤ w
digits_least zero k w h = omega arith
digits_least (suc most) k w h = by (k == 0) refl w h (λ v g. digits_least most (k / 2) v g)
  where
    by : (b : Bool) → (k == 0) ≡ b → (w : ℕ) → k < 2 ^ w → ((v : ℕ) → k / 2 < 2 ^ v → digits most (k / 2) ≤ v) → (if b then 0 else 1 + digits most (k / 2)) ≤ w
    by true e w h g = omega arith
    by false e zero h g = let some : k ≡ 0 → ⊥ = eqb-false k 0 e in absurd (omega arith)
    by false e (suc w) h g =
        let least : digits most (k / 2) ≤ w = g w (omega (arith, pow-suc 2 w)) in
        omega arith

-- as many values as the bits tell apart
pub width_holds : (n : ℕ) → 0 < n → n ≤ 2 ^ width n
width_holds n h = omega (arith, digits_hold n (n - 1) (omega arith))

-- no fewer bits do
pub width_least : (n w : ℕ) → 0 < n → n ≤ 2 ^ w → width n ≤ w
width_least n w h g = digits_least n (n - 1) w (omega arith)

-- a place is below the power of two
pub place_below : (n i : ℕ) → i < n → i < 2 ^ width n
place_below n i h = omega (arith, width_holds n (omega arith))

-- the number of binary digits of the last place is the width
pub width_is : (n m : ℕ) → 0 < n → n - 1 < 2 ^ m → 2 ^ m ≤ 2 * (n - 1) + 1 → m ≡ width n
width_is n m h below above = by (cases_lt (width n) m)
  where
    least : width n ≤ m
    least = digits_least n (n - 1) m below

    by : (width n < m) ⊎ (m ≤ width n) → m ≡ width n
    by (inr g) = omega (arith, least)
    by (inl g) =
        let wider : 2 ^ suc (width n) ≤ 2 ^ m = pow-le-pow_right (omega arith) (omega arith) in
        absurd (omega (arith, width_holds n h, pow-suc 2 (width n)))
