-- Vacuity of a single occurrence (Kupferman and Vardi 1999).
use Rattle.std.specs.Prelude.{ℕ, Bool}
use Rattle.cov_logic.specs.Structure.{Structure}
use Rattle.cov_logic.specs.Formula.{Formula}
use Rattle.cov_logic.specs.Verdict.{Passes}
use Rattle.cov_logic.specs.Replacement.{replace}

-- the formula passes with every formula of the kind, of any size, in the place of occurrence n
abbrev pub IsVacuous : {S A : Type 0} → Structure S → (S → A → Bool) → (Formula A → Type 0) → Formula A → ℕ →
    Type 0
IsVacuous {S} {A} m label IsOver f n = (x : Formula A) → IsOver x → Passes m label (replace f n x)
