-- The interval of an operator's own kind has each result at numbers of its operands' intervals.
use Rattle.std.proofs.Common.{◌≡◌, ◌<◌, ◌⊎◌, inl, inr, Bool, true, false, IsTrue, ℤ, pos, ◌+ℤ◌, ◌-ℤ◌, ◌*ℤ◌, neg_ℤ, nat_abs, ◌≤ℤ◌, ◌<ℤ◌, int_le, int_div, refl, arith}
use Rattle.std.proofs.lemmas.Int.{ints}
use Rattle.cov_syntax.specs.declared.tree.Value.TheVariants as v
use Rattle.cov_syntax.specs.declared.tree.Op1.TheVariants as op1
use Rattle.cov_syntax.specs.declared.tree.Op2.TheVariants as op2
use Rattle.cov_model.specs.Values.{within, remainder}
use Rattle.cov_model.specs.Kinds.{interval, of_kind, hull_of_ends, own_of_one, own_of_two}
use Rattle.cov_model.specs.Walk.{has_zero}
use Rattle.cov_model.proofs.Intervals.{Between, hull_low, hull_high, product_left, product_right, quotient_left, quotient_right, WithoutZero, remainder-is, remainder_low, remainder_high}

pub bounds : (l h x : ℤ) → IsTrue (within l h (v.Int x)) → (l ≤ℤ x) × (x ≤ℤ h)
bounds l h x e = grind (arith, ints)

pub within_bounds : (l h x : ℤ) → l ≤ℤ x → x ≤ℤ h → IsTrue (within l h (v.Int x))
within_bounds l h x e f = grind (arith, ints)

-- x lies in [a, b] and y in [c, d]
module _ (a b c d x y : ℤ) (p : IsTrue (within a b (v.Int x))) (q : IsTrue (within c d (v.Int y))) where
  from_ends : (f : ℤ → ℤ → ℤ) → Between (f a c) (f a d) (f a y) → Between (f b c) (f b d) (f b y) → Between (f a y) (f b y) (f x y)
      → IsTrue (of_kind (hull_of_ends f (interval a b) (interval c d)) (v.Int (f x y)))
  from_ends f g h k = within_bounds _ _ _ (hull_low _ _ _ _ _ _ _ g h k) (hull_high _ _ _ _ _ _ _ g h k)

  pub sum_kept : IsTrue (of_kind (own_of_two op2.Add (interval a b) (interval c d)) (v.Int (x +ℤ y)))
  sum_kept = let r = bounds a b x p in let s = bounds c d y q in
      from_ends (λ m n. m +ℤ n) (inl (omega (arith, ints, r, s), omega (arith, ints, r, s))) (inl (omega (arith, ints, r, s), omega (arith, ints, r, s))) (inl (omega (arith, ints, r, s), omega (arith, ints, r, s)))

  pub difference_kept : IsTrue (of_kind (own_of_two op2.Sub (interval a b) (interval c d)) (v.Int (x -ℤ y)))
  difference_kept = let r = bounds a b x p in let s = bounds c d y q in
      from_ends (λ m n. m -ℤ n) (inr (omega (arith, ints, r, s), omega (arith, ints, r, s))) (inr (omega (arith, ints, r, s), omega (arith, ints, r, s))) (inl (omega (arith, ints, r, s), omega (arith, ints, r, s)))

  pub product_kept : IsTrue (of_kind (own_of_two op2.Mul (interval a b) (interval c d)) (v.Int (x *ℤ y)))
  product_kept = let r = bounds a b x p in let s = bounds c d y q in
      from_ends (λ m n. m *ℤ n) (product_right a x c d y s.0 s.1) (product_right b x c d y s.0 s.1) (product_left a b x y r.0 r.1)

  -- the divisor's interval has no 0
  without_zero : has_zero (interval c d) ≡ false → c ≤ℤ d → WithoutZero c d
  without_zero e f = by (int_le c (pos 0)) (int_le (pos 0) d) refl refl
    where
      by : (m n : Bool) → int_le c (pos 0) ≡ m → int_le (pos 0) d ≡ n → WithoutZero c d
      by true true i j = absurd (grind (arith, ints))
      by true false i j = inr (grind (arith, ints))
      by false n i j = inl (grind (arith, ints))

  sign : WithoutZero c d → (c ≤ℤ y) × (y ≤ℤ d) → (pos 0 <ℤ y) ⊎ (y <ℤ pos 0)
  sign (inl h) s = inl (omega (arith, ints))
  sign (inr h) s = inr (omega (arith, ints))

  pub quotient_kept : has_zero (interval c d) ≡ false → IsTrue (of_kind (own_of_two op2.Div (interval a b) (interval c d)) (v.Int (int_div x y)))
  quotient_kept e = let r = bounds a b x p in let s = bounds c d y q in let z = without_zero e (omega (arith, ints, s)) in
      from_ends int_div (quotient_right a c d y z s.0 s.1) (quotient_right b c d y z s.0 s.1) (quotient_left a b x y (sign z s) r.0 r.1)

  divides : WithoutZero c d → (c ≤ℤ y) × (y ≤ℤ d) → 0 < nat_abs y
  divides (inl h) s = omega (arith, ints)
  divides (inr h) s = omega (arith, ints)

  pub remainder_kept : has_zero (interval c d) ≡ false → IsTrue (of_kind (own_of_two op2.Mod (interval a b) (interval c d)) (v.Int (remainder x y)))
  remainder_kept e = let r = bounds a b x p in let s = bounds c d y q in let z = without_zero e (omega (arith, ints, s)) in
      let n = divides z s in let m = remainder-is x y n in
      within_bounds _ _ _ (remainder_low a c d x y _ r.0 s.0 s.1 n m) (remainder_high b c d x y _ r.1 s.0 s.1 n m)

  pub opposite_kept : IsTrue (of_kind (own_of_one op1.Neg (interval a b)) (v.Int (neg_ℤ x)))
  opposite_kept = let r = bounds a b x p in within_bounds (neg_ℤ b) (neg_ℤ a) (neg_ℤ x) (omega (arith, ints, r)) (omega (arith, ints, r))
