use Rattle.cov_logic.proofs.OneConstant.{constant_law}
use Rattle.cov_logic.proofs.occurrences.one_constant_decides.Goals as goal

pub returns : goal.returns
returns g c = constant_law _ _
