-- Laws of what a lasso refutes and shows.
use Rattle.std.specs.Prelude.{◌≡◌, ℕ, Bool, IsTrue, ◌↔◌, List}
use Rattle.cov_logic.specs.Structure.{Structure}
use Rattle.cov_logic.specs.Lasso.{Lasso}
use Rattle.cov_logic.specs.Suffix.{at}
use Rattle.cov_logic.specs.FairLasso.{IsFair, IsFairFrom}
use Rattle.cov_logic.specs.Formula.{Formula}
use Rattle.cov_logic.specs.Truth.{Sat}
use Rattle.cov_logic.specs.Verdict.{Passes}
use Rattle.cov_logic.specs.Reachable.{Reachable}
use Rattle.cov_logic.specs.Mutant.{mutant}
use Rattle.cov_logic.specs.Evidence.{Refutes, Shows}
use Rattle.cov_logic.specs.LinearFragment.{is_plain, is_universal, is_existential}
use Rattle.cov_logic.specs.Finite.{IsFinite}

-- a lasso refutes a formula without temporal operators exactly where it is false at the first state, and shows it
-- exactly where it is true there
pub record PlainIsTold (S A : Type 0) : Type 0 where
  pub refuted : (m : Structure S) (label : S → A → Bool) (f : Formula A) (l : Lasso S) → IsTrue (is_plain f) →
      Refutes label f l ↔ ¬ Sat m label f (at l 0)
  pub shown : (m : Structure S) (label : S → A → Bool) (f : Formula A) (l : Lasso S) → IsTrue (is_plain f) →
      Shows label f l ↔ Sat m label f (at l 0)

-- a formula without temporal operators is on both sides of the linear fragment
pub record PlainIsLinear (A : Type 0) : Type 0 where
  pub universal : (f : Formula A) → IsTrue (is_plain f) → IsTrue (is_universal f)
  pub existential : (f : Formula A) → IsTrue (is_plain f) → IsTrue (is_existential f)

-- state by state the lassos have the same atoms, each under its labelling
pub record Agree {S A : Type 0} (one other : S → A → Bool) (l k : Lasso S) : Type 0 where
  pub by : (i : ℕ) (a : A) → one (at l i) a ≡ other (at k i) a

-- what a lasso refutes and shows depends on the atoms of its states alone, not on where its stem ends
pub record LabelsDecide (S A : Type 0) : Type 0 where
  pub refuted : (one other : S → A → Bool) (f : Formula A) (l k : Lasso S) → Agree one other l k →
      Refutes one f l → Refutes other f k
  pub shown : (one other : S → A → Bool) (f : Formula A) (l k : Lasso S) → Agree one other l k →
      Shows one f l → Shows other f k

-- what a fair lasso refutes is not true at its first state, and what it shows is
pub record EvidenceIsSound (S A : Type 0) : Type 0 where
  pub refuted : (m : Structure S) (label : S → A → Bool) (f : Formula A) (l : Lasso S) → IsFair m l →
      Refutes label f l → ¬ Sat m label f (at l 0)
  pub shown : (m : Structure S) (label : S → A → Bool) (f : Formula A) (l : Lasso S) → IsFair m l →
      Shows label f l → Sat m label f (at l 0)

-- what a fair lasso from an initial state refutes does not pass
abbrev pub RefutedFails : Type 0 → Type 0 → Type 0
RefutedFails S A = (m : Structure S) (label : S → A → Bool) (f : Formula A) (s : S) (l : Lasso S) →
    IsTrue (m.initial s) → IsFairFrom m s l → Refutes label f l → ¬ Passes m label f

-- where the formula passes but the lasso refutes it in the mutant at w, the lasso goes through w; so w is reachable
abbrev pub GoesThrough : Type 0 → Type 0 → Type 0
GoesThrough S A = (m : Structure S) (same : S → S → Bool) (plain inverted : S → A → Bool) (f : Formula A)
    (s w : S) (l : Lasso S) → ((s t : S) → IsTrue (same s t) → s ≡ t) → IsTrue (m.initial s) → IsFairFrom m s l →
    Refutes (mutant same plain inverted w) f l → Passes m plain f → ((i : ℕ) × (at l i ≡ w)) × Reachable m w

-- on a finite structure a linear universal formula that does not pass is refuted by some fair lasso from an initial
-- state
abbrev pub FailureIsRefuted : Type 0 → Type 0 → Type 0
FailureIsRefuted S A = (m : Structure S) (same : S → S → Bool) (states : List S) (label : S → A → Bool)
    (f : Formula A) → IsFinite m same states → IsTrue (is_universal f) → ¬ Passes m label f →
    (s : S) × (l : Lasso S) × IsTrue (m.initial s) × IsFairFrom m s l × Refutes label f l
