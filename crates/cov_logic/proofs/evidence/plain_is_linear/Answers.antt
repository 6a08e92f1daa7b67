use Rattle.cov_logic.proofs.PlainFormulas.{plain_law}
use Rattle.cov_logic.proofs.evidence.plain_is_linear.Goals as goal

pub returns : goal.returns
returns g c = plain_law _
