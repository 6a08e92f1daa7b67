use Rattle.cov_laws.proofs.Inverting.{local_law}
use Rattle.cov_laws.proofs.signals.inverting_is_local.Goals as goal

pub returns : goal.returns
returns c = local_law
