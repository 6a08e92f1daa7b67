-- Laws of verdicts, reachable states and coverage.
use Rattle.std.specs.Prelude.{ℕ, Bool, IsTrue, ◌⊎◌, ◌↔◌, List}
use Rattle.cov_logic.specs.Structure.{Structure}
use Rattle.cov_logic.specs.Lasso.{Lasso}
use Rattle.cov_logic.specs.Suffix.{at}
use Rattle.cov_logic.specs.FairLasso.{IsFairFrom, StartsFair}
use Rattle.cov_logic.specs.Finite.{IsFinite}
use Rattle.cov_logic.specs.Formula.{Formula, And}
use Rattle.cov_logic.specs.Verdict.{Passes}
use Rattle.cov_logic.specs.Reachable.{Reachable}
use Rattle.cov_logic.specs.Covered.{IsCovered}

-- each state of a fair lasso from an initial state is reachable
abbrev pub LassosAreReachable : Type 0 → Type 0
LassosAreReachable S = (m : Structure S) (s : S) (l : Lasso S) (i : ℕ) → IsTrue (m.initial s) → IsFairFrom m s l →
    Reachable m (at l i)

-- no initial state starts a fair lasso
abbrev pub IsUnfair : {S : Type 0} → Structure S → Type 0
IsUnfair {S} m = (s : S) → IsTrue (m.initial s) → ¬ StartsFair m s

-- there every formula passes, whatever the labelling, and so does its mutant: nothing is covered
pub record NothingIsCovered (S A : Type 0) : Type 0 where
  pub passes : (m : Structure S) (label : S → A → Bool) (f : Formula A) → IsUnfair m → Passes m label f
  pub uncovered : (m : Structure S) (same : S → S → Bool) (plain inverted : S → A → Bool) (f : Formula A) (w : S) →
      IsUnfair m → ¬ IsCovered same m plain inverted f w

-- on a finite structure, where both sides of a conjunction pass, it covers the states that one of them covers
abbrev pub ConjunctionCovers : Type 0 → Type 0 → Type 0
ConjunctionCovers S A = (m : Structure S) (same : S → S → Bool) (states : List S) (plain inverted : S → A → Bool)
    (f g : Formula A) (w : S) → IsFinite m same states → Passes m plain f → Passes m plain g →
    IsCovered same m plain inverted (And f g) w
    ↔ (IsCovered same m plain inverted f w ⊎ IsCovered same m plain inverted g w)
