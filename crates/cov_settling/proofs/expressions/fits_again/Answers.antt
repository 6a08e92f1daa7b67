use Rattle.cov_settling.proofs.SettledModel.{fits_again}
use Rattle.cov_settling.proofs.expressions.fits_again.Goals as goal

pub returns : goal.returns
returns c = λ m ks may asks e c f. fits_again m ks may asks e c f
