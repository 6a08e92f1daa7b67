-- The formulas of a model.
use Rattle.cov_logic.specs.Formula.{Formula, Atom, Not, And, Or, Implies, EX, EF, EG, EU, AX, AF, AG, AU}
use Rattle.cov_model.specs.declared.model.Model.{Model}
use Rattle.cov_model.specs.Atoms.{IsAtomOf}
use Rattle.cov_ctl.specs.declared.formula.Formula as ctl
use Rattle.cov_ctl.specs.Formulas.{formula_of}

-- each atom of a formula has a property
abbrev pub AllAtoms : {A : Type 0} → (A → Type 0) → Formula A → Type 0
AllAtoms P (Atom a) = P a
AllAtoms P (Not f) = AllAtoms P f
AllAtoms P (And f g) = AllAtoms P f × AllAtoms P g
AllAtoms P (Or f g) = AllAtoms P f × AllAtoms P g
AllAtoms P (Implies f g) = AllAtoms P f × AllAtoms P g
AllAtoms P (EX f) = AllAtoms P f
AllAtoms P (EF f) = AllAtoms P f
AllAtoms P (EG f) = AllAtoms P f
AllAtoms P (EU f g) = AllAtoms P f × AllAtoms P g
AllAtoms P (AX f) = AllAtoms P f
AllAtoms P (AF f) = AllAtoms P f
AllAtoms P (AG f) = AllAtoms P f
AllAtoms P (AU f g) = AllAtoms P f × AllAtoms P g

-- each atom of the formula is one of the model
abbrev pub IsFormulaOf : Model → ctl.Formula → Type 0
IsFormulaOf m f = AllAtoms (IsAtomOf m) (formula_of f)
