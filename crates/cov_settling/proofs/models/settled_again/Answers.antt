use Rattle.cov_settling.proofs.SettledModel.{settled_again}
use Rattle.cov_settling.proofs.models.settled_again.Goals as goal

pub returns : goal.returns
returns c = λ m f. settled_again m f
