-- One constant decides vacuity for all formulas of a kind.
use Rattle.std.proofs.Common.{◌≡◌, ℕ, Bool, true, false, if◌then◌else◌, IsTrue, ◌↔◌, refl}
use Rattle.cov_logic.specs.Structure.{Structure}
use Rattle.cov_logic.specs.Formula.{Formula}
use Rattle.cov_logic.specs.Truth.{Sat}
use Rattle.cov_logic.specs.Verdict.{Passes}
use Rattle.cov_logic.specs.Polarity.{positive}
use Rattle.cov_logic.specs.Replacement.{replace}
use Rattle.cov_logic.specs.Vacuity.{IsVacuous}
use Rattle.cov_logic.specs.OccurrenceLaws.{Entails, OneConstantDecides}
use Rattle.cov_logic.proofs.Monotone.{upward, downward}

module _ {S A : Type 0} (m : Structure S) (label : S → A → Bool) where
  -- what a formula that passes entails passes
  pub passes_more : (f g : Formula A) → Entails m label f g → Passes m label f → Passes m label g
  passes_more f g h p s l i fair = h.by s (p s l i fair)

  module _ (low high : Formula A) (never : (s : S) → ¬ Sat m label low s) (always : (s : S) → Sat m label high s) where
    -- at a positive occurrence the constant below all others gives the least truth, at a negative one the constant above all
    extreme : (f : Formula A) (n : ℕ) (x : Formula A) (b : Bool) → positive f n ≡ b → Entails m label (replace f n (if b then low else high)) (replace f n x)
    extreme f n x true e = upward m label f n low x (record { by = λ s h. absurd (never s h) }) e
    extreme f n x false e = downward m label f n x high (record { by = λ s h. always s }) e

    -- it decides for formulas of any kind that has both constants, also one that is no test
    pub constant_decides : (IsOver : Formula A → Type 0) → IsOver low → IsOver high → (f : Formula A) (n : ℕ) →
        IsVacuous m label IsOver f n ↔ Passes m label (replace f n (if positive f n then low else high))
    constant_decides IsOver low_over high_over f n = (
      λ v. v (if positive f n then low else high) (either (positive f n)),
      λ p x x_over. passes_more _ _ (extreme f n x (positive f n) refl) p,
    )
      where
        either : (b : Bool) → IsOver (if b then low else high)
        either true = low_over
        either false = high_over

pub constant_law : (S A : Type 0) → OneConstantDecides S A
constant_law S A m label is_over low high f n low_over high_over never always =
    constant_decides m label low high never always (λ x. IsTrue (is_over x)) low_over high_over f n
