use Rattle.cov_settling.proofs.SettledFlat.{flat_again}
use Rattle.cov_settling.proofs.models.flat_again.Goals as goal

pub returns : goal.returns
returns c = λ m w. flat_again m w
