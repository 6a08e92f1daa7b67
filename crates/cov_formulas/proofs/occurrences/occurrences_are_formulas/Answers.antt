use Rattle.cov_model.specs.Atoms.{IsAtomOf}
use Rattle.cov_ctl.specs.Formulas.{formula_of}
use Rattle.cov_formulas.proofs.Kept.{at_occurrence}
use Rattle.cov_formulas.proofs.occurrences.occurrences_are_formulas.Goals as goal

pub returns : goal.returns
returns c = λ m f n g h e. at_occurrence (IsAtomOf m) (formula_of f) n (formula_of g) h e
