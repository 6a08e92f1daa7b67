-- Results at the ends of intervals.
use Rattle.std.proofs.Common.{◌≡◌, ℕ, ℤ, pos, ◌-ℤ◌, neg_ℤ, int_lt, if◌then◌else◌, Option, Some, None, arith, subst, ap, ◌∙◌, to_z, of_z, w64}
use Rattle.std.specs.Int.{int_min, int_max}
use Rattle.std.proofs.lemmas.Int.{ints, clamps}
use Rattle.cov_model.specs.Kinds as k
use Rattle.cov_model.specs.Kinds.{interval}
use Rattle.cov_kinds.specs.declared.kind.Kind.{Kind}
use Rattle.cov_kinds.specs.Seen.{IsKindOrWide, IsKindOrLong}
use Rattle.cov_kinds.proofs.Narrow.{IsNarrow, same_interval, is_long}

pub moved : (r : Option Kind) (a b c d : ℤ) → a ≡ c → b ≡ d → IsKindOrWide r (interval a b) → IsKindOrWide r (interval c d)
moved r a b c d p q h = subst (λ (k : k.Kind). IsKindOrWide r k) (same_interval a b c d p q) h

pub long_hull : (r : Option Kind) (a b c d : ℤ) → IsNarrow a b → IsNarrow c d → IsKindOrWide r (interval (int_min a c) (int_max b d)) → IsKindOrLong r (interval (int_min a c) (int_max b d))
long_hull (Some k) a b c d p q h = h
long_hull None a b c d p q h = is_long (int_min a c) (int_max b d) (omega (arith, ints, clamps)) (omega (arith, ints, clamps)) h

-- a number that was passed as 64 bits
abbrev pub kept : ℤ → ℤ
kept x = to_z w64 (of_z w64 x)

-- the hull of the four results
abbrev pub Hull : ℤ → ℤ → ℤ → ℤ → k.Kind
Hull p q r s = interval (int_min (int_min p q) (int_min r s)) (int_max (int_max p q) (int_max r s))

pub moved_hull : (o : Option Kind) (p q r s a b c d : ℤ) → IsKindOrWide o (Hull p q r s) → p ≡ a → q ≡ b → r ≡ c → s ≡ d → IsKindOrWide o (Hull a b c d)
moved_hull o p q r s a b c d k e f g h = rw (← e, ← f, ← g, ← h) k

-- what a remainder's ends are, for the greatest absolute value of the divisors
abbrev pub LowEnd : ℤ → ℕ → ℤ
LowEnd low n = if int_lt low (pos 0) then int_max low (neg_ℤ (pos n -ℤ pos 1)) else pos 0

abbrev pub HighEnd : ℤ → ℕ → ℤ
HighEnd high n = if int_lt (pos 0) high then int_min high (pos n -ℤ pos 1) else pos 0

pub moved_remainders : (o : Option Kind) (l h : ℤ) (x y : ℤ) (a b : ℤ) (n m : ℕ) → IsKindOrWide o (interval l h) → x ≡ LowEnd a n → y ≡ HighEnd b n → n ≡ m → l ≡ x → h ≡ y → IsKindOrWide o (interval (LowEnd a m) (HighEnd b m))
moved_remainders o l h x y a b n m k p q e f g =
    moved o l h (LowEnd a m) (HighEnd b m) (f ∙ p ∙ ap (λ (i : ℕ). LowEnd a i) e) (g ∙ q ∙ ap (λ (i : ℕ). HighEnd b i) e) k
