use Rattle.cov_laws.proofs.Covering.{conjunction_law}
use Rattle.cov_laws.proofs.verdicts.conjunction_covers.Goals as goal

pub returns : goal.returns
returns g c = conjunction_law _ _
