-- Laws of codings.
use Rattle.std.specs.Prelude.{◌≡◌, Bool, IsTrue, ◌↔◌}
use Rattle.cov_logic.specs.Structure.{Structure}
use Rattle.cov_logic.specs.Formula.{Formula}
use Rattle.cov_logic.specs.Truth.{Sat}
use Rattle.cov_logic.specs.Verdict.{Passes}
use Rattle.cov_logic.specs.Reachable.{Reachable}
use Rattle.cov_logic.specs.Covered.{IsCovered}
use Rattle.cov_logic.specs.Sets.{Set}
use Rattle.cov_logic.specs.Coding.{IsCoding}

-- the labellings agree about each valid state and its code
pub record LabelsAgree {S R A : Type 0} (valid : Set S) (encode : S → R) (label : S → A → Bool)
    (code_label : R → A → Bool) : Type 0 where
  pub by : (s : S) (a : A) → IsTrue (valid s) → label s a ≡ code_label (encode s) a

-- the structures and labellings have the same truths, verdicts and reachable states
pub record HaveSame {S R A : Type 0} (m : Structure S) (k : Structure R) (valid : Set S) (encode : S → R)
    (label : S → A → Bool) (code_label : R → A → Bool) : Type 0 where
  pub truth : (f : Formula A) (s : S) → IsTrue (valid s) → Sat m label f s ↔ Sat k code_label f (encode s)
  pub verdict : (f : Formula A) → Passes m label f ↔ Passes k code_label f
  pub reachable : (s : S) → IsTrue (valid s) → Reachable m s ↔ Reachable k (encode s)

-- a coding keeps truth, verdicts and what is reachable
abbrev pub CodingKeeps : Type 0 → Type 0 → Type 0 → Type 0
CodingKeeps S R A = (m : Structure S) (k : Structure R) (valid : Set S) (encode : S → R) (decode : R → S)
    (label : S → A → Bool) (code_label : R → A → Bool) → IsCoding m k valid encode decode →
    LabelsAgree valid encode label code_label → HaveSame m k valid encode label code_label

-- and what is covered
abbrev pub CodingKeepsCoverage : Type 0 → Type 0 → Type 0 → Type 0
CodingKeepsCoverage S R A = (m : Structure S) (k : Structure R) (valid : Set S) (encode : S → R) (decode : R → S)
    (same : S → S → Bool) (code_same : R → R → Bool) (plain inverted : S → A → Bool)
    (code_plain code_inverted : R → A → Bool) → IsCoding m k valid encode decode →
    ((w s : S) → IsTrue (valid w) → IsTrue (valid s) → same w s ≡ code_same (encode w) (encode s)) →
    LabelsAgree valid encode plain code_plain → LabelsAgree valid encode inverted code_inverted →
    (f : Formula A) (w : S) → IsTrue (valid w) →
    IsCovered same m plain inverted f w ↔ IsCovered code_same k code_plain code_inverted f (encode w)
