use Rattle.cov_logic.proofs.Suffixes.{suffix_law}
use Rattle.cov_logic.proofs.lassos.suffix_is_fair.Goals as goal

pub returns : goal.returns
returns g c = suffix_law _
