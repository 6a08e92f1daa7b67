use Rattle.cov_settling.proofs.SettledModel.{passes_again}
use Rattle.cov_settling.proofs.models.passes_again.Goals as goal

pub returns : goal.returns
returns c = λ m c f. passes_again m c f
