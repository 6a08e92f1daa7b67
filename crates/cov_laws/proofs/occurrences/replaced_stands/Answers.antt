use Rattle.cov_laws.proofs.Replacing.{replaced_law}
use Rattle.cov_laws.proofs.occurrences.replaced_stands.Goals as goal

pub returns : goal.returns
returns g c = replaced_law _
