-- The reports on the specifications of a model.
use Rattle.std.specs.Prelude.{◌≡◌, ◌↔◌, ℕ, suc, ◌&&◌, Bool, true, false, IsTrue, List, [], ◌∷◌, ◌++◌, length, slice_get, codes, Some}
use Rattle.cov_syntax.specs.declared.tree.Expr.{Expr}
use Rattle.cov_logic.specs.FairLasso.{StartsFair}
use Rattle.cov_model.specs.declared.model.Model.{Model}
use Rattle.cov_model.specs.Paths.{structure}
use Rattle.cov_model.specs.States.{State, is_initial}
use Rattle.cov_ctl.specs.declared.formula.Formula as ctl
use Rattle.cov_ctl.specs.Formulas.{formula_of}
use Rattle.cov_ctl.specs.Lowered.{lowered}
use Rattle.cov_coverage.specs.Sections.{AreSignalSections}
use Rattle.cov_claims.specs.Truths.{IsPassing}
use Rattle.cov_ctl.specs.Sizes.{size}
use Rattle.cov_report.specs.declared.note.Note.TheVariants.{NotMeasured}
use Rattle.cov_report.specs.SpecLines.{note_line, spec_line}
use Rattle.cov_jobs.specs.declared.detail.Detail.{Detail}
use Rattle.cov_jobs.specs.declared.detail.Detail.TheVariants.{Verdict, Occurrences, Coverage}
use Rattle.cov_jobs.specs.Occurrences.{AreOccurrenceLines}

-- no initial state starts a fair lasso
abbrev pub NoFairInitial : Model → Type 0
NoFairInitial m = (s : State) → IsTrue (is_initial m s) → StartsFair (structure m) s → ⊥

-- the line on initial states none of which starts a fair lasso
abbrev pub fair_line : Bool → List ℕ
fair_line true = []
fair_line false = codes "no fair initial state\n"

-- the line where there is no specification
abbrev pub none_line : List Expr → List ℕ
none_line [] = codes "no specifications\n"
none_line (e ∷ es) = []

-- the head of a report
abbrev pub head : Bool → List Expr → List ℕ
head fair specs = fair_line fair ++ none_line specs

-- what a report shows of a formula behind the line of its verdict
abbrev pub Shows : Detail → Model → ctl.Formula → Bool → List ℕ → Type 0
Shows Verdict m f passes text = text ≡ []
Shows Occurrences m f true text = AreOccurrenceLines m f (size f) text
Shows Occurrences m f false text = text ≡ note_line NotMeasured 2
Shows (Coverage signals cubes) m f true text = AreSignalSections cubes m (formula_of f) signals text
Shows (Coverage signals cubes) m f false text = text ≡ note_line NotMeasured 2

-- the section of a specification: the line of its verdict, and what is shown behind it
pub record IsSection (detail : Detail) (m : Model) (place : ℕ) (passes : Bool) (text : List ℕ) : Type 0 where
  pub spec : Expr
  pub there : slice_get m.specs place ≡ Some spec
  pub verdict : IsTrue passes ↔ IsPassing m (lowered spec)
  pub behind : List ℕ
  pub shows : Shows detail m (lowered spec) passes behind
  pub is : text ≡ spec_line m (suc place) passes (lowered spec) ++ behind

-- the sections of the first specifications in their order, and whether all of these pass
pub data AreSections (detail : Detail) (m : Model) : ℕ → Bool → List ℕ → Type 0 where
  none : AreSections detail m 0 true []
  more : (k : ℕ) (passes own : Bool) (text section : List ℕ) → AreSections detail m k passes text → IsSection detail m k own section → AreSections detail m (suc k) (passes && own) (text ++ section)

-- the report on the specifications, and whether all pass
pub record IsSpecificationReport (detail : Detail) (m : Model) (passes : Bool) (text : List ℕ) : Type 0 where
  pub fair : Bool
  pub is_fair : (fair ≡ false) ↔ NoFairInitial m
  pub sections : List ℕ
  pub are : AreSections detail m (length m.specs) passes sections
  pub is : text ≡ head fair m.specs ++ sections
