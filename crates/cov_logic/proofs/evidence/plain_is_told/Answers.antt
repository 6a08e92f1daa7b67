use Rattle.cov_logic.proofs.PlainFormulas.{told_law}
use Rattle.cov_logic.proofs.evidence.plain_is_told.Goals as goal

pub returns : goal.returns
returns g c = told_law _ _
