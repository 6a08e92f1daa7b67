use Rattle.cov_logic.proofs.Monotone.{monotone_law}
use Rattle.cov_logic.proofs.occurrences.monotone_by_polarity.Goals as goal

pub returns : goal.returns
returns g c = monotone_law _ _
