use Rattle.cov_logic.proofs.Joins.{joined_law}
use Rattle.cov_logic.proofs.lassos.joined_is_fair.Goals as goal

pub returns : goal.returns
returns g c = joined_law _
