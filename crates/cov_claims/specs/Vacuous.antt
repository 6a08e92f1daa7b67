-- Vacuity of an occurrence in a formula of a model.
use Rattle.std.specs.Prelude.{ℕ, None}
use Rattle.cov_logic.specs.Vacuity.{IsVacuous}
use Rattle.cov_ctl.specs.declared.formula.Formula as ctl
use Rattle.cov_ctl.specs.Formulas.{formula_of}
use Rattle.cov_model.specs.declared.model.Model.{Model}
use Rattle.cov_model.specs.Paths.{structure, labelling}
use Rattle.cov_formulas.specs.Over.{IsFormulaOver}

-- the formula passes with every formula over the model, of any size, in the place of occurrence n, no signal being inverted
abbrev pub IsVacuousIn : Model → ctl.Formula → ℕ → Type 0
IsVacuousIn m f n = IsVacuous (structure m) (labelling m None) (IsFormulaOver m) (formula_of f) n
