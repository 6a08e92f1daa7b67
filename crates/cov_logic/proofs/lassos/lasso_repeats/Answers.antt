use Rattle.cov_logic.proofs.Periods.{repeats_law}
use Rattle.cov_logic.proofs.lassos.lasso_repeats.Goals as goal

pub returns : goal.returns
returns g c = repeats_law _
