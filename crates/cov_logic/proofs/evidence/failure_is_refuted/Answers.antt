use Rattle.cov_logic.proofs.Decisions.{failure_law}
use Rattle.cov_logic.proofs.evidence.failure_is_refuted.Goals as goal

pub returns : goal.returns
returns g c = failure_law _ _
