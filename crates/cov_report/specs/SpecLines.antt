-- The lines of a specification, and those below it.
use Rattle.std.specs.Prelude.{ℕ, Bool, if◌then◌else◌, ◌++◌, codes, decimal}
use Rattle.cov_syntax.specs.Tokens.{Text}
use Rattle.cov_model.specs.declared.model.Model.{Model}
use Rattle.cov_ctl.specs.declared.formula.Formula.{Formula}
use Rattle.cov_show.specs.Formulas.{formula_text}
use Rattle.cov_report.specs.declared.note.Note.{Note}
use Rattle.cov_report.specs.declared.note.Note.TheVariants as n
use Rattle.cov_report.specs.Lines.{line}

-- what stands between the number and the formula of a specification
abbrev pub verdict : Bool → Text
verdict passes = if passes then codes " passes: " else codes " fails: "

-- the line of a specification
abbrev pub spec_line : Model → ℕ → Bool → Formula → Text
spec_line m n passes f = line 0 (codes "spec " ++ decimal n ++ verdict passes ++ formula_text m f)

-- what stands between the number and the subformula of an occurrence
abbrev pub use_of : Bool → Text
use_of vacuous = if vacuous then codes " vacuous: " else codes " matters: "

-- the line of an occurrence of a subformula
abbrev pub occurrence_line : Model → ℕ → Bool → Formula → Text
occurrence_line m n vacuous f = line 2 (codes "occurrence " ++ decimal n ++ use_of vacuous ++ formula_text m f)

-- the line above the sets of a signal
abbrev pub signal_line : Text → Text
signal_line name = line 2 (codes "signal " ++ name)

-- a specification that fails has a note in place of a measure
abbrev pub note_text : Note → Text
note_text n.NotMeasured = codes "fails, not measured"

abbrev pub note_line : Note → ℕ → Text
note_line note indent = line indent (note_text note)
