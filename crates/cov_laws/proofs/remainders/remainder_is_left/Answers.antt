use Rattle.cov_laws.proofs.Dividing.{left_law}
use Rattle.cov_laws.proofs.remainders.remainder_is_left.Goals as goal

pub returns : goal.returns
returns c = left_law
