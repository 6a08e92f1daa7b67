-- Tests of the numbers below another, and targets.
use Rattle.std.proofs.Common.{◌≡◌, ◌⊎◌, inl, inr, ◌↔◌, ◌==◌, ℕ, zero, suc, ◌<◌, ◌≤◌, ◌&&◌, ◌||◌, List, [], ◌∷◌, Bool, true, false, length, Option, Some, None, refl, sym, ◌∙◌, ap, ap₂, arith}
use Rattle.std.proofs.lemmas.List.{get_or_past}
use Rattle.std.proofs.lemmas.Bool.{cases_lt, cases_eq, eqb-true, eq-eqb}
use Rattle.cov_fields.specs.declared.field.Field.{Field}
use Rattle.cov_families.specs.Families.{names, FitsField, AllFit, target, some_below}

-- ---- a test is true for some number below another

or_true : (b : Bool) → (b || true) ≡ true
or_true true = refl
or_true false = refl

-- it is true where it is true of one
pub some_there : (n : ℕ) (test : ℕ → Bool) (k : ℕ) → k < n → test k ≡ true → some_below n test ≡ true
some_there zero test k lt h = absurd (omega arith)
some_there (suc n) test k lt h = by (cases_lt k n) (λ l. some_there n test k l h)
  where
    by : (k < n) ⊎ (n ≤ k) → (k < n → some_below n test ≡ true) → (some_below n test || test n) ≡ true
    by (inl l) go = ap (λ b. b || test n) (go l)
    by (inr le) go =
        let e : k ≡ n = omega arith in
        ap (λ b. some_below n test || b) (ap test (sym e) ∙ h) ∙ or_true (some_below n test)

-- it is true of one where it is true
pub there_some : (n : ℕ) (test : ℕ → Bool) → some_below n test ≡ true → (k : ℕ) × (k < n) × (test k ≡ true)
there_some zero test h = cc
there_some (suc n) test h = by (some_below n test) (test n) refl refl h (there_some n test)
  where
    by : (a b : Bool) → some_below n test ≡ a → test n ≡ b → (a || b) ≡ true → (some_below n test ≡ true → (k : ℕ) × (k < n) × (test k ≡ true)) → (k : ℕ) × (k < suc n) × (test k ≡ true)
    by true b e f h go = let w = go e in (w.0, omega (arith, w.1), w.2)
    by false true e f h go = (n, omega arith, f)
    by false false e f h go = cc

-- it is true exactly where it is true of one
pub some_exactly : (n : ℕ) (test : ℕ → Bool) → (some_below n test ≡ true) ↔ ((k : ℕ) × (k < n) × (test k ≡ true))
some_exactly n test = (there_some n test, λ w. some_there n test w.0 w.1 w.2)

-- it is true of none
pub some_none : (n : ℕ) (test : ℕ → Bool) → ((k : ℕ) → k < n → test k ≡ false) → some_below n test ≡ false
some_none zero test h = refl
some_none (suc n) test h = ap₂ ◌||◌ (some_none n test (λ k lt. h k (omega arith))) (h n (omega arith))

-- it matters below the number alone
pub some_same : (n : ℕ) (p q : ℕ → Bool) → ((k : ℕ) → k < n → p k ≡ q k) → some_below n p ≡ some_below n q
some_same zero p q h = refl
some_same (suc n) p q h = ap₂ ◌||◌ (some_same n p q (λ k lt. h k (omega arith))) (h n (omega arith))

-- two numbers that differ
unequal : (k j : ℕ) → (k ≡ j → ⊥) → (k == j) ≡ false
unequal k j ne = by (k == j) refl
  where
    by : (b : Bool) → (k == j) ≡ b → b ≡ false
    by true e = absurd (ne (eqb-true k j e))
    by false e = refl

-- a test of one number alone
pub some_one : (n k : ℕ) (test : ℕ → Bool) → (n ≤ k → test k ≡ false) → some_below n (λ j. k == j && test j) ≡ test k
some_one n k test past = by (test k) refl (cases_lt k n)
  where
    here : (j : ℕ) → test k ≡ false → (k ≡ j) ⊎ (k ≡ j → ⊥) → (k == j && test j) ≡ false
    here j e (inl same) = ap₂ ◌&&◌ (eq-eqb k j same) (ap test (sym same) ∙ e)
    here j e (inr ne) = ap (λ b. b && test j) (unequal k j ne)

    by : (b : Bool) → test k ≡ b → (k < n) ⊎ (n ≤ k) → some_below n (λ j. k == j && test j) ≡ b
    by true e (inl lt) = some_there n (λ j. k == j && test j) k lt (ap₂ ◌&&◌ (eq-eqb k k refl) e)
    by true e (inr le) = let f : test k ≡ false = past le in cc
    by false e c = some_none n (λ j. k == j && test j) (λ j lt. here j e (cases_eq k j))

-- ---- targets

-- a number names itself alone
pub names_itself : (k j : ℕ) → (names (Some k) j ≡ true) ↔ (k ≡ j)
names_itself k j = (eqb-true k j, eq-eqb k j)

-- the same, with the two numbers exchanged
pub equal_turned : (k j : ℕ) → (k == j) ≡ (j == k)
equal_turned k j = by (cases_eq k j)
  where
    by : (k ≡ j) ⊎ (k ≡ j → ⊥) → (k == j) ≡ (j == k)
    by (inl e) = eq-eqb k j e ∙ sym (eq-eqb j k (sym e))
    by (inr ne) = unequal k j ne ∙ sym (unequal j k (λ e. ne (sym e)))

-- no number is the target behind the last one
pub names_past : (ts : List (Option ℕ)) (i j : ℕ) → length ts ≤ i → names (target ts i) j ≡ false
names_past ts i j le = ap (λ (t : Option ℕ). names t j) (get_or_past ts i None le)

-- each target fits
pub target_fits : (f : Field) (ts : List (Option ℕ)) (i : ℕ) → AllFit f ts → FitsField f (target ts i)
target_fits f [] i h = tt
target_fits f (t ∷ ts) zero h = h.0
target_fits f (t ∷ ts) (suc i) h = target_fits f ts i h.1
