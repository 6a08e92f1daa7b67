-- The interval of a result has every result: the hull of the four results at the ends, for `+ - * /`, and the interval of `mod`.
use Rattle.std.proofs.Common.{◌≡◌, ℕ, zero, suc, ◌+◌, ◌*◌, ◌/◌, ◌%◌, ◌<◌, ◌≤◌, ◌⊎◌, inl, inr, max, Bool, true, false, if◌then◌else◌, int_lt, ℤ, pos, negsuc, ◌-ℤ◌, ◌*ℤ◌, neg_ℤ, nat_abs, ◌≤ℤ◌, ◌<ℤ◌, int_div, int_rem, arith, refl, mul-le-mul_right, mul-le-mul_left, le_trans, div-mul-le_self, le-div_iff_mul-le, div-add-mod', mod-lt}
use native.Mathlib.Nat.{div-add-mod}
use Rattle.std.specs.Int.{int_min, int_max}
use Rattle.std.proofs.lemmas.Int.{ints, clamps}
use borrow.Author.Differences.{up, down, product_is, neg_is}
use lib.IntN.{*ℤ_comm, negsuc-*ℤ-negsuc, pos-*ℤ-negsuc, negsuc-*ℤ-pos}
use Rattle.cov_model.specs.Values.{remainder}

-- x lies between u and v, whichever is the lesser
abbrev pub Between : ℤ → ℤ → ℤ → Type 0
Between u v x = ((u ≤ℤ x) × (x ≤ℤ v)) ⊎ ((v ≤ℤ x) × (x ≤ℤ u))

-- x lies in the hull of four numbers
abbrev pub InHull : ℤ → ℤ → ℤ → ℤ → ℤ → Type 0
InHull p q r s x = (int_min (int_min p q) (int_min r s) ≤ℤ x) × (x ≤ℤ int_max (int_max p q) (int_max r s))

pub hull_low : (p q r s u v x : ℤ) → Between p q u → Between r s v → Between u v x → int_min (int_min p q) (int_min r s) ≤ℤ x
hull_low p q r s u v x (inl h) (inl k) (inl l) = omega (arith, ints, clamps)
hull_low p q r s u v x (inl h) (inl k) (inr l) = omega (arith, ints, clamps)
hull_low p q r s u v x (inl h) (inr k) (inl l) = omega (arith, ints, clamps)
hull_low p q r s u v x (inl h) (inr k) (inr l) = omega (arith, ints, clamps)
hull_low p q r s u v x (inr h) (inl k) (inl l) = omega (arith, ints, clamps)
hull_low p q r s u v x (inr h) (inl k) (inr l) = omega (arith, ints, clamps)
hull_low p q r s u v x (inr h) (inr k) (inl l) = omega (arith, ints, clamps)
hull_low p q r s u v x (inr h) (inr k) (inr l) = omega (arith, ints, clamps)

pub hull_high : (p q r s u v x : ℤ) → Between p q u → Between r s v → Between u v x → x ≤ℤ int_max (int_max p q) (int_max r s)
hull_high p q r s u v x (inl h) (inl k) (inl l) = omega (arith, ints, clamps)
hull_high p q r s u v x (inl h) (inl k) (inr l) = omega (arith, ints, clamps)
hull_high p q r s u v x (inl h) (inr k) (inl l) = omega (arith, ints, clamps)
hull_high p q r s u v x (inl h) (inr k) (inr l) = omega (arith, ints, clamps)
hull_high p q r s u v x (inr h) (inl k) (inl l) = omega (arith, ints, clamps)
hull_high p q r s u v x (inr h) (inl k) (inr l) = omega (arith, ints, clamps)
hull_high p q r s u v x (inr h) (inr k) (inl l) = omega (arith, ints, clamps)
hull_high p q r s u v x (inr h) (inr k) (inr l) = omega (arith, ints, clamps)

-- ---- products

pub times_up : (a x : ℤ) (n : ℕ) → a ≤ℤ x → (a *ℤ pos n) ≤ℤ (x *ℤ pos n)
times_up a x n h =
    let e : up a + down x ≤ up x + down a = omega (arith, ints) in
    omega (arith, ints, product_is a (pos n), product_is x (pos n), mul-le-mul_right n e)

pub times_down : (a x : ℤ) (n : ℕ) → a ≤ℤ x → (x *ℤ negsuc n) ≤ℤ (a *ℤ negsuc n)
times_down a x n h =
    let e : up a + down x ≤ up x + down a = omega (arith, ints) in
    omega (arith, ints, product_is a (negsuc n), product_is x (negsuc n), mul-le-mul_right (suc n) e)

pub product_left : (a b x y : ℤ) → a ≤ℤ x → x ≤ℤ b → Between (a *ℤ y) (b *ℤ y) (x *ℤ y)
product_left a b x (pos n) h k = inl (times_up a x n h, times_up x b n k)
product_left a b x (negsuc n) h k = inr (times_down x b n k, times_down a x n h)

pub product_right : (a x c d y : ℤ) → c ≤ℤ y → y ≤ℤ d → Between (a *ℤ c) (a *ℤ d) (a *ℤ y)
product_right a x c d y h k = rw (*ℤ_comm a c, *ℤ_comm a d, *ℤ_comm a y) (product_left c d y a h k)

-- ---- quotients, rounded toward zero

pub div_up : (m n k : ℕ) → 0 < k → m ≤ n → m / k ≤ n / k
div_up m n k p h = (le-div_iff_mul-le p).1 (le_trans (div-mul-le_self m k) h)

pub div_down : (n c y : ℕ) → 0 < c → c ≤ y → n / y ≤ n / c
div_down n c y p h = (le-div_iff_mul-le p).1 (le_trans (mul-le-mul_left (n / y) h) (div-mul-le_self n y))

-- the dividend grows, the divisor is positive
pub quotient_up : (a x : ℤ) (k : ℕ) → 0 < k → a ≤ℤ x → int_div a (pos k) ≤ℤ int_div x (pos k)
quotient_up (pos a) (pos x) k p h = omega (arith, ints, div_up a x k p (omega (arith, ints)))
quotient_up (negsuc a) (pos x) k p h = omega (arith, ints)
quotient_up (negsuc a) (negsuc x) k p h = omega (arith, ints, div_up (suc x) (suc a) k p (omega (arith, ints)))
quotient_up (pos a) (negsuc x) k p h = absurd (omega (arith, ints))

-- the divisor is negative
pub quotient_down : (a x : ℤ) (k : ℕ) → a ≤ℤ x → int_div x (negsuc k) ≤ℤ int_div a (negsuc k)
quotient_down (pos a) (pos x) k h = omega (arith, ints, div_up a x (suc k) (omega arith) (omega (arith, ints)))
quotient_down (negsuc a) (pos x) k h = omega (arith, ints)
quotient_down (negsuc a) (negsuc x) k h = omega (arith, ints, div_up (suc x) (suc a) (suc k) (omega arith) (omega (arith, ints)))
quotient_down (pos a) (negsuc x) k h = absurd (omega (arith, ints))

-- an interval without 0
abbrev pub WithoutZero : ℤ → ℤ → Type 0
WithoutZero c d = (pos 0 <ℤ c) ⊎ (d <ℤ pos 0)

pub quotient_left : (a b x y : ℤ) → (pos 0 <ℤ y) ⊎ (y <ℤ pos 0) → a ≤ℤ x → x ≤ℤ b → Between (int_div a y) (int_div b y) (int_div x y)
quotient_left a b x (pos k) (inl p) h l = inl (quotient_up a x k (omega (arith, ints)) h, quotient_up x b k (omega (arith, ints)) l)
quotient_left a b x (pos k) (inr p) h l = absurd (omega (arith, ints))
quotient_left a b x (negsuc k) s h l = inr (quotient_down x b k l, quotient_down a x k h)

-- the divisor grows, and is positive
pub quotient_right_up : (a c d y : ℤ) → pos 0 <ℤ c → c ≤ℤ y → y ≤ℤ d → Between (int_div a c) (int_div a d) (int_div a y)
quotient_right_up (pos a) (pos c) (pos d) (pos y) p h k =
    inr (omega (arith, ints, div_down a y d (omega (arith, ints)) (omega (arith, ints))), omega (arith, ints, div_down a c y (omega (arith, ints)) (omega (arith, ints))))
quotient_right_up (negsuc a) (pos c) (pos d) (pos y) p h k =
    inl (omega (arith, ints, div_down (suc a) c y (omega (arith, ints)) (omega (arith, ints))), omega (arith, ints, div_down (suc a) y d (omega (arith, ints)) (omega (arith, ints))))
quotient_right_up a c d y p h k = absurd (omega (arith, ints))

-- it grows, and is negative
pub quotient_right_down : (a c d y : ℤ) → d <ℤ pos 0 → c ≤ℤ y → y ≤ℤ d → Between (int_div a c) (int_div a d) (int_div a y)
quotient_right_down (pos a) (negsuc c) (negsuc d) (negsuc y) p h k =
    inr (omega (arith, ints, div_down a (suc d) (suc y) (omega arith) (omega (arith, ints))), omega (arith, ints, div_down a (suc y) (suc c) (omega arith) (omega (arith, ints))))
quotient_right_down (negsuc a) (negsuc c) (negsuc d) (negsuc y) p h k =
    inl (omega (arith, ints, div_down (suc a) (suc y) (suc c) (omega arith) (omega (arith, ints))), omega (arith, ints, div_down (suc a) (suc d) (suc y) (omega arith) (omega (arith, ints))))
quotient_right_down a c d y p h k = absurd (omega (arith, ints))

pub quotient_right : (a c d y : ℤ) → WithoutZero c d → c ≤ℤ y → y ≤ℤ d → Between (int_div a c) (int_div a d) (int_div a y)
quotient_right a c d y (inl p) h k = quotient_right_up a c d y p h k
quotient_right a c d y (inr p) h k = quotient_right_down a c d y p h k

-- ---- remainders

pub remainder_of_pos : (a k : ℕ) → remainder (pos a) (pos k) ≡ pos (a % k)
remainder_of_pos a k = omega (arith, ints, product_is (pos k) (pos (a / k)), div-add-mod' a k)

-- a remainder has the sign of the dividend, does not pass it, and is smaller than the divisor
pub record IsRemainder (a b r : ℤ) : Type 0 where
  pub low : (pos 0 ≤ℤ a → pos 0 ≤ℤ r) × (a ≤ℤ pos 0 → a ≤ℤ r)
  pub high : (pos 0 ≤ℤ a → r ≤ℤ a) × (a ≤ℤ pos 0 → r ≤ℤ pos 0)
  pub small : nat_abs r < nat_abs b

times_down_down : (k q : ℕ) → negsuc k *ℤ neg_ℤ (pos q) ≡ pos (suc k * q)
times_down_down k zero = omega (arith, ints)
times_down_down k (suc q) = negsuc-*ℤ-negsuc k q

times_up_down : (k q : ℕ) → pos k *ℤ neg_ℤ (pos q) ≡ neg_ℤ (pos (k * q))
times_up_down k zero = omega (arith, ints)
times_up_down k (suc q) = pos-*ℤ-negsuc k q

-- the remainder of the absolute values, with the dividend's sign
pub remainder-up : (a : ℕ) (b : ℤ) → remainder (pos a) b ≡ pos (a % nat_abs b)
remainder-up a (pos k) = omega (arith, ints, product_is (pos k) (pos (a / k)), div-add-mod' a k)
remainder-up a (negsuc k) = omega (arith, ints, times_down_down k (a / suc k), div-add-mod a (suc k))

pub remainder-down : (a : ℕ) (b : ℤ) → remainder (negsuc a) b ≡ neg_ℤ (pos (suc a % nat_abs b))
remainder-down a (pos k) = omega (arith, ints, times_up_down k (suc a / k), neg_is (pos (k * (suc a / k))), neg_is (pos (suc a % k)), div-add-mod (suc a) k)
remainder-down a (negsuc k) = omega (arith, ints, negsuc-*ℤ-pos k (suc a / suc k), neg_is (pos (suc k * (suc a / suc k))), neg_is (pos (suc a % suc k)), div-add-mod (suc a) (suc k))

-- it is the remainder of the language's operator
pub remainder-int_rem : (a b : ℤ) → remainder a b ≡ int_rem a b
remainder-int_rem (pos a) b = remainder-up a b
remainder-int_rem (negsuc a) b = remainder-down a b

pub remainder-is : (a b : ℤ) → 0 < nat_abs b → IsRemainder a b (remainder a b)
remainder-is (pos a) b p =
    rw (remainder-up a b) (record {
      low = (λ h. omega (arith, ints), λ h. omega (arith, ints, div-add-mod' a (nat_abs b)));
      high = (λ h. omega (arith, ints, div-add-mod' a (nat_abs b)), λ h. omega (arith, ints, div-add-mod' a (nat_abs b)));
      small = omega (arith, ints, mod-lt a p);
    })
remainder-is (negsuc a) b p =
    rw (remainder-down a b) (record {
      low = (λ h. omega (arith, ints), λ h. omega (arith, ints, neg_is (pos (suc a % nat_abs b)), div-add-mod' (suc a) (nat_abs b)));
      high = (λ h. omega (arith, ints), λ h. omega (arith, ints, neg_is (pos (suc a % nat_abs b))));
      small = omega (arith, ints, neg_is (pos (suc a % nat_abs b)), mod-lt (suc a) p);
    })

-- the greatest absolute value, less 1
abbrev greatest : ℤ → ℤ → ℤ
greatest c d = pos (max (nat_abs c) (nat_abs d)) -ℤ pos 1

low_of : (x y r : ℤ) → IsRemainder x y r → (pos 0 ≤ℤ r) ⊎ ((x ≤ℤ r) × (x ≤ℤ pos 0))
low_of (pos n) y r h = inl (h.low.0 (omega (arith, ints)))
low_of (negsuc n) y r h = inr (h.low.1 (omega (arith, ints)), omega (arith, ints))

high_of : (x y r : ℤ) → IsRemainder x y r → ((r ≤ℤ x) × (pos 0 ≤ℤ x)) ⊎ (r ≤ℤ pos 0)
high_of (pos n) y r h = inl (h.high.0 (omega (arith, ints)), omega (arith, ints))
high_of (negsuc n) y r h = inr (h.high.1 (omega (arith, ints)))

pub remainder_low : (l c d x y r : ℤ) → l ≤ℤ x → c ≤ℤ y → y ≤ℤ d → 0 < nat_abs y → IsRemainder x y r → (if int_lt l (pos 0) then int_max l (neg_ℤ (greatest c d)) else pos 0) ≤ℤ r
remainder_low l c d x y r lx cy yd p h = by (int_lt l (pos 0)) refl (low_of x y r h)
  where
    by : (b : Bool) → int_lt l (pos 0) ≡ b → (pos 0 ≤ℤ r) ⊎ ((x ≤ℤ r) × (x ≤ℤ pos 0)) → (if b then int_max l (neg_ℤ (greatest c d)) else pos 0) ≤ℤ r
    by true e (inl k) = omega (arith, ints, clamps, h.small)
    by true e (inr k) = omega (arith, ints, clamps, h.small)
    by false e (inl k) = k
    by false e (inr k) = omega (arith, ints)

pub remainder_high : (l c d x y r : ℤ) → x ≤ℤ l → c ≤ℤ y → y ≤ℤ d → 0 < nat_abs y → IsRemainder x y r → r ≤ℤ (if int_lt (pos 0) l then int_min l (greatest c d) else pos 0)
remainder_high l c d x y r lx cy yd p h = by (int_lt (pos 0) l) refl (high_of x y r h)
  where
    by : (b : Bool) → int_lt (pos 0) l ≡ b → ((r ≤ℤ x) × (pos 0 ≤ℤ x)) ⊎ (r ≤ℤ pos 0) → r ≤ℤ (if b then int_min l (greatest c d) else pos 0)
    by true e (inl k) = omega (arith, ints, clamps, h.small)
    by true e (inr k) = omega (arith, ints, clamps, h.small)
    by false e (inl k) = omega (arith, ints)
    by false e (inr k) = k
