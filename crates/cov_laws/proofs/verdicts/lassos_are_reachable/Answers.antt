use Rattle.cov_laws.proofs.Covering.{reachable_law}
use Rattle.cov_laws.proofs.verdicts.lassos_are_reachable.Goals as goal

pub returns : goal.returns
returns g c = reachable_law _
