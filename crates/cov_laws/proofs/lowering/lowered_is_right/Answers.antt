use Rattle.cov_laws.proofs.Lowered.{lowered_law}
use Rattle.cov_laws.proofs.lowering.lowered_is_right.Goals as goal

pub returns : goal.returns
returns c = lowered_law
