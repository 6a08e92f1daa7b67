use Rattle.cov_logic.proofs.Labels.{labels_law}
use Rattle.cov_logic.proofs.evidence.labels_decide.Goals as goal

pub returns : goal.returns
returns g c = labels_law _ _
