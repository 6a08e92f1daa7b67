-- What a report says of the occurrences of a formula.
use Rattle.std.specs.Prelude.{◌≡◌, ◌↔◌, ℕ, suc, Bool, IsTrue, List, [], ◌++◌, Some}
use Rattle.cov_logic.specs.Occurrence.{occurrence}
use Rattle.cov_model.specs.declared.model.Model.{Model}
use Rattle.cov_ctl.specs.declared.formula.Formula as ctl
use Rattle.cov_ctl.specs.Formulas.{formula_of}
use Rattle.cov_report.specs.SpecLines.{occurrence_line}
use Rattle.cov_claims.specs.Vacuous.{IsVacuousIn}

-- the line of an occurrence: its number, whether it is vacuous, and the subformula
pub record IsOccurrenceLine (m : Model) (f : ctl.Formula) (number : ℕ) (text : List ℕ) : Type 0 where
  pub part : ctl.Formula
  pub stands : occurrence (formula_of f) number ≡ Some (formula_of part)
  pub vacuous : Bool
  pub is_vacuous : IsTrue vacuous ↔ IsVacuousIn m f number
  pub is : text ≡ occurrence_line m number vacuous part

-- the lines of the first occurrences in their order
pub data AreOccurrenceLines (m : Model) (f : ctl.Formula) : ℕ → List ℕ → Type 0 where
  none : AreOccurrenceLines m f 0 []
  more : (k : ℕ) (text line : List ℕ) → AreOccurrenceLines m f k text → IsOccurrenceLine m f (suc k) line → AreOccurrenceLines m f (suc k) (text ++ line)
