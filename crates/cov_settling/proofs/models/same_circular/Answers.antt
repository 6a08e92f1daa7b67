use Rattle.cov_settling.proofs.SettledFlat.{same_circular}
use Rattle.cov_settling.proofs.models.same_circular.Goals as goal

pub returns : goal.returns
returns c = λ m. same_circular m
