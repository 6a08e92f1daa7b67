use Rattle.cov_logic.proofs.Refutations.{refuted_law}
use Rattle.cov_logic.proofs.evidence.refuted_fails.Goals as goal

pub returns : goal.returns
returns g c = refuted_law _ _
