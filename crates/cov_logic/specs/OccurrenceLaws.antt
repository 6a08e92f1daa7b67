-- Laws of occurrences (polarity and the deciding constant: Kupferman and Vardi 1999).
use Rattle.std.specs.Prelude.{◌≡◌, ℕ, Bool, IsTrue, IsFalse, if◌then◌else◌, ◌↔◌, Some, IsSome}
use Rattle.cov_logic.specs.Structure.{Structure}
use Rattle.cov_logic.specs.Formula.{Formula}
use Rattle.cov_logic.specs.Truth.{Sat}
use Rattle.cov_logic.specs.Verdict.{Passes}
use Rattle.cov_logic.specs.Occurrence.{IsOccurrence, occurrence}
use Rattle.cov_logic.specs.Polarity.{positive}
use Rattle.cov_logic.specs.Replacement.{replace}
use Rattle.cov_logic.specs.Vacuity.{IsVacuous}

-- there is a formula at exactly the numbers from 1 to the size; put in its own place, it changes nothing,
-- and at no occurrence nothing is replaced
pub record OccurrencesAreNodes (A : Type 0) : Type 0 where
  pub there : (f : Formula A) (n : ℕ) → IsSome (occurrence f n) ↔ IsOccurrence f n
  pub itself : (f x : Formula A) (n : ℕ) → occurrence f n ≡ Some x → replace f n x ≡ f
  pub nowhere : (f x : Formula A) (n : ℕ) → ¬ IsOccurrence f n → replace f n x ≡ f

-- wherever f is true, g is
pub record Entails {S A : Type 0} (m : Structure S) (label : S → A → Bool) (f g : Formula A) : Type 0 where
  pub by : (s : S) → Sat m label f s → Sat m label g s

-- a formula is monotone in each of its occurrences: upward in a positive one, downward in a negative one
abbrev pub MonotoneByPolarity : Type 0 → Type 0 → Type 0
MonotoneByPolarity S A = (m : Structure S) (label : S → A → Bool) (f : Formula A) (n : ℕ) (x y : Formula A) →
    Entails m label x y →
    (IsTrue (positive f n) → Entails m label (replace f n x) (replace f n y)) ×
    (IsFalse (positive f n) → Entails m label (replace f n y) (replace f n x))

-- one constant decides vacuity for all formulas of a kind: the false one at a positive occurrence, the true one at a
-- negative one
abbrev pub OneConstantDecides : Type 0 → Type 0 → Type 0
OneConstantDecides S A = (m : Structure S) (label : S → A → Bool) (is_over : Formula A → Bool)
    (low high f : Formula A) (n : ℕ) → IsTrue (is_over low) → IsTrue (is_over high) →
    ((s : S) → ¬ Sat m label low s) → ((s : S) → Sat m label high s) →
    IsVacuous m label (λ x. IsTrue (is_over x)) f n
    ↔ Passes m label (replace f n (if positive f n then low else high))
