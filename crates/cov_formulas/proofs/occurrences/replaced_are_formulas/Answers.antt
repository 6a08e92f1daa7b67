use Rattle.cov_model.specs.Atoms.{IsAtomOf}
use Rattle.cov_ctl.specs.Formulas.{formula_of}
use Rattle.cov_ctl.proofs.Replacements.{size_replaced}
use Rattle.cov_formulas.proofs.Kept.{all_replaced}
use Rattle.cov_formulas.proofs.occurrences.replaced_are_formulas.Goals as goal

pub returns-clause-of : goal.returns-clause-of
returns-clause-of c = λ m f n x h k. all_replaced (IsAtomOf m) x k (formula_of f) n h

pub returns-clause-size : goal.returns-clause-size
returns-clause-size c = λ f n x h. size_replaced f n x h
