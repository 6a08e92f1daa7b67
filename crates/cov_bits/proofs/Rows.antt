-- Rows of bits and their numbers.
use Rattle.std.proofs.Common.{◌≡◌, ◌<◌, ◌≤◌, ◌+◌, ◌-◌, ◌*◌, ◌/◌, ◌%◌, ◌^◌, ℕ, zero, suc, Bool, true, false, ◌==◌, if◌then◌else◌, ◌⊎◌, inl, inr, List, [], ◌∷◌, ◌++◌, length, get_or, refl, sym, ap, ◌∙◌, arith, length-append}
use Rattle.std.proofs.lemmas.Nat.{pow_pos, pow-add, shr_high, shr-shr, mod-pow-add}
use Rattle.std.proofs.lemmas.Bool.{cases_lt}
use Rattle.std.proofs.Math.Nat.{pow-suc, mul-add-div_right, mod-eq_of_lt}
use Rattle.cov_bits.specs.Layout.{row, number}

-- a quotient by a power of two, with a multiple of that power added
quotient_added : (n hi c : ℕ) → (hi * 2 ^ n + c) / 2 ^ n ≡ hi + c / 2 ^ n
quotient_added n hi c = mul-add-div_right (pow_pos n) hi c

-- the row of n bits reads the number below the n-th power of two only
pub row-add : (n hi c : ℕ) → row n (hi * 2 ^ n + c) ≡ row n c
row-add zero hi c = refl
row-add (suc n) hi c =
    let same : hi * 2 ^ suc n + c ≡ (hi * 2) * 2 ^ n + c = ap (λ (k : ℕ). hi * k + c) (pow-suc 2 n) ∙ omega arith in
    rw same (head ((hi * 2 * 2 ^ n + c) / 2 ^ n % 2) (c / 2 ^ n % 2) (rw quotient_added (omega arith)) (row-add n (hi * 2) c))
  where
    head : (a b : ℕ) → a ≡ b → row n (hi * 2 * 2 ^ n + c) ≡ row n c → (a == 1) ∷ row n (hi * 2 * 2 ^ n + c) ≡ (b == 1) ∷ row n c
    head a b e g = ap (λ (k : ℕ). (k == 1) ∷ row n (hi * 2 * 2 ^ n + c)) e ∙ ap (λ (r : List Bool). (b == 1) ∷ r) g

pub length-row : (n c : ℕ) → length (row n c) ≡ n
length-row zero c = refl
length-row (suc n) c = ap (λ (k : ℕ). suc k) (length-row n c)

-- the row of two numbers, one behind the other
pub row-append : (m n hi lo : ℕ) → lo < 2 ^ n → row (m + n) (hi * 2 ^ n + lo) ≡ row m hi ++ row n lo
row-append zero n hi lo h = let same : zero + n ≡ n = omega arith in rw same (row-add n hi lo)
row-append (suc m) n hi lo h =
    let longer : suc m + n ≡ suc (m + n) = omega arith in
    let turned : m + n ≡ n + m = omega arith in
    let head : (hi * 2 ^ n + lo) / 2 ^ (m + n) ≡ hi / 2 ^ m = rw turned (sym (shr-shr (hi * 2 ^ n + lo) n m) ∙ ap (λ (k : ℕ). k / 2 ^ m) (shr_high hi n lo h)) in
    rw longer (ap (λ (k : ℕ). (k % 2 == 1) ∷ row (m + n) (hi * 2 ^ n + lo)) head ∙ ap (λ (r : List Bool). (hi / 2 ^ m % 2 == 1) ∷ r) (row-append m n hi lo h))

pub number_below : (r : List Bool) → number r < 2 ^ length r
number_below [] = omega arith
number_below (true ∷ r) = omega (arith, number_below r, pow-suc 2 (length r))
number_below (false ∷ r) = omega (arith, number_below r, pow-suc 2 (length r))

pub row-number : (r : List Bool) → row (length r) (number r) ≡ r
row-number [] = refl
row-number (true ∷ r) =
    let one : 2 ^ length r + number r ≡ 1 * 2 ^ length r + number r = omega arith in
    rw (one, shr_high 1 (length r) (number r) (number_below r), row-add (length r) 1 (number r)) (ap (λ (s : List Bool). true ∷ s) (row-number r))
row-number (false ∷ r) =
    let none : 0 + number r ≡ 0 * 2 ^ length r + number r = omega arith in
    rw (none, shr_high 0 (length r) (number r) (number_below r), row-add (length r) 0 (number r)) (ap (λ (s : List Bool). false ∷ s) (row-number r))

digit : (q w : ℕ) → (if q % 2 == 1 then w else 0) ≡ q % 2 * w
digit q w = by (cases_lt (q % 2) 1)
  where
    by : (q % 2 < 1) ⊎ (1 ≤ q % 2) → (if q % 2 == 1 then w else 0) ≡ q % 2 * w
    by (inl h) = let none : q % 2 ≡ 0 = omega arith in rw none (omega arith)
    by (inr h) = let one : q % 2 ≡ 1 = omega arith in rw one (omega arith)

-- the number of a row is what the bits hold of the number
pub number-row : (n c : ℕ) → number (row n c) ≡ c % 2 ^ n
number-row zero c = omega arith
number-row (suc n) c = rw (length-row n c, number-row n c, digit (c / 2 ^ n) (2 ^ n)) (sym (ap (λ (k : ℕ). c % 2 ^ k) more ∙ mod-pow-add c 1 n))
  where
    more : suc n ≡ 1 + n
    more = omega arith

pub number-append : (a b : List Bool) → number (a ++ b) ≡ number a * 2 ^ length b + number b
number-append [] b = omega arith
number-append (true ∷ a) b = rw (number-append a b, length-append a b, pow-add 2 (length a) (length b)) (omega arith)
number-append (false ∷ a) b = rw (number-append a b) (omega arith)

pub number_of : (n c : ℕ) → c < 2 ^ n → number (row n c) ≡ c
number_of n c h = number-row n c ∙ mod-eq_of_lt h

pub row_bit : (n c b : ℕ) → b < n → get_or (row n c) b false ≡ (c / 2 ^ (n - 1 - b) % 2 == 1)
row_bit zero c b h = absurd (omega arith)
row_bit (suc n) c zero h = let same : suc n - 1 - zero ≡ n = omega arith in rw same refl
row_bit (suc n) c (suc b) h = let same : suc n - 1 - suc b ≡ n - 1 - b = omega arith in rw same (row_bit n c b (omega arith))
