use Rattle.cov_settling.proofs.SettledFlat.{same_formulas}
use Rattle.cov_settling.proofs.models.same_formulas.Goals as goal

pub returns : goal.returns
returns c = λ m. same_formulas m
