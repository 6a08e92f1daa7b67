use Rattle.cov_laws.proofs.Covering.{unfair_law}
use Rattle.cov_laws.proofs.verdicts.nothing_is_covered.Goals as goal

pub returns : goal.returns
returns g c = unfair_law _ _
