use Rattle.cov_logic.proofs.Decisions.{decided_law}
use Rattle.cov_logic.proofs.truths.truth_is_decided.Goals as goal

pub returns : goal.returns
returns g c = decided_law _ _
