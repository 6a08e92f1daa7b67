use Rattle.cov_logic.proofs.MutantStates.{through_law}
use Rattle.cov_logic.proofs.evidence.refuting_goes_through.Goals as goal

pub returns : goal.returns
returns g c = through_law _ _
