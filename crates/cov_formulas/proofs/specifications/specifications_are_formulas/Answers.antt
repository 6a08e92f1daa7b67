use Rattle.cov_ranges.proofs.Places.{specs_stand}
use Rattle.cov_formulas.proofs.Lowering.{all_atoms}
use Rattle.cov_formulas.proofs.SpecLists.{spec_fits}
use Rattle.cov_formulas.proofs.specifications.specifications_are_formulas.Goals as goal

pub returns : goal.returns
returns c = λ m w i e g. all_atoms m e (specs_stand m i e g) (spec_fits m w i e g)
