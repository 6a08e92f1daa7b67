use Rattle.cov_logic.proofs.Nodes.{nodes_law}
use Rattle.cov_logic.proofs.occurrences.occurrences_are_nodes.Goals as goal

pub returns : goal.returns
returns g c = nodes_law _
