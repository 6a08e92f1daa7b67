use Rattle.cov_logic.proofs.Codings.{coverage_law}
use Rattle.cov_logic.proofs.coding.coding_keeps_coverage.Goals as goal

pub returns : goal.returns
returns g c = coverage_law _ _ _
