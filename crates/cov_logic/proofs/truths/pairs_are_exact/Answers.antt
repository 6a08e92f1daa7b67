use Rattle.cov_logic.proofs.TruthSets.{pairs_law}
use Rattle.cov_logic.proofs.truths.pairs_are_exact.Goals as goal

pub returns : goal.returns
returns g c = pairs_law _ _
