use Rattle.cov_dd.proofs.Canonical.{canonical}
use Rattle.cov_dd.proofs.laws.canonicity.Goals as goal

pub returns : goal.returns
returns c = canonical
