-- Typed states, place by place.
use Rattle.std.proofs.Common.{◌≡◌, ℕ, zero, suc, ◌+◌, ◌<◌, ◌≤◌, Bool, true, false, ◌&&◌, IsTrue, List, [], ◌∷◌, length, get_or, drop, Some, refl, sym, ap, ◌∙◌, arith, add-one}
use Rattle.std.specs.Prelude.{slice_get, nat_lt}
use Rattle.std.proofs.lemmas.Option.{slice_get_read}
use Rattle.cov_model.specs.declared.model.Var.{Var}
use Rattle.cov_model.specs.States.{State, fits}

and_false : (b c : Bool) → c ≡ false → (b && c) ≡ false
and_false true c e = e
and_false false c e = refl

-- lists of different lengths do not fit
pub fits_lengths : (vars : List Var) (s : State) → (length vars ≡ length s → ⊥) → fits vars s ≡ false
fits_lengths [] [] h = absurd (h refl)
fits_lengths [] (i ∷ s) h = refl
fits_lengths (x ∷ xs) [] h = refl
fits_lengths (x ∷ xs) (i ∷ s) h = and_false (nat_lt i (length x.values)) (fits xs s) (fits_lengths xs s (λ e. h (ap (λ (k : ℕ). suc k) e)))

-- what is left, from a place on
unfoldable pub left_fits : List Var → State → ℕ → Bool
left_fits vars s i = fits (drop i vars) (drop i s)

next : (vars : List Var) (s : State) (i : ℕ) (x : Var) → length vars ≡ length s → slice_get vars i ≡ Some x
    → fits (drop i vars) (drop i s) ≡ (nat_lt (get_or s i 0) (length x.values) && fits (drop (suc i) vars) (drop (suc i) s))
next [] s i x l g = cc
next (y ∷ ys) [] i x l g = absurd (omega arith)
next (y ∷ ys) (p ∷ s) zero x l g = let h : y ≡ x = cc in ap (λ (z : Var). nat_lt p (length z.values) && fits ys s) h
next (y ∷ ys) (p ∷ s) (suc i) x l g = next ys s i x (omega arith) g

pub left_all : (vars : List Var) (s : State) → left_fits vars s 0 ≡ fits vars s
unfolding left_fits
left_all vars s = refl

pub left_next : (vars : List Var) (s : State) (i : ℕ) (x : Var) → length vars ≡ length s → i < length vars → x ≡ get_or vars i x
    → left_fits vars s i ≡ (nat_lt (get_or s i 0) (length x.values) && left_fits vars s (i + 1))
unfolding left_fits
left_next vars s i x l h e =
    next vars s i x l (slice_get_read vars (length vars) i x refl h e)
    ∙ ap (λ (k : ℕ). nat_lt (get_or s i 0) (length x.values) && fits (drop k vars) (drop k s)) (sym (add-one i))

left_nothing : (vars : List Var) (s : State) (i : ℕ) → length vars ≡ length s → length vars ≤ i → fits (drop i vars) (drop i s) ≡ true
left_nothing [] [] zero l h = refl
left_nothing [] [] (suc i) l h = refl
left_nothing [] (p ∷ s) i l h = absurd (omega arith)
left_nothing (x ∷ xs) [] i l h = absurd (omega arith)
left_nothing (x ∷ xs) (p ∷ s) zero l h = absurd (omega arith)
left_nothing (x ∷ xs) (p ∷ s) (suc i) l h = left_nothing xs s i (omega arith) (omega arith)

pub left_none : (vars : List Var) (s : State) (i : ℕ) → length vars ≡ length s → length vars ≤ i → left_fits vars s i ≡ true
unfolding left_fits
left_none vars s i l h = left_nothing vars s i l h

-- the turns of the loop
pub not_below : (a b : ℕ) (c : Bool) → b ≤ a → (nat_lt a b && c) ≡ false
not_below a b c h = by (nat_lt a b) refl
  where
    by : (t : Bool) → nat_lt a b ≡ t → (t && c) ≡ false
    by true e = absurd (grind arith)
    by false e = refl

pub is_below : (a b : ℕ) (c : Bool) → a < b → (nat_lt a b && c) ≡ c
is_below a b c h = by (nat_lt a b) refl
  where
    by : (t : Bool) → nat_lt a b ≡ t → (t && c) ≡ c
    by true e = refl
    by false e = absurd (grind arith)
