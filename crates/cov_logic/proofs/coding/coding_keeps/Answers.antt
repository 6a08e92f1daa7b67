use Rattle.cov_logic.proofs.Codings.{coding_law}
use Rattle.cov_logic.proofs.coding.coding_keeps.Goals as goal

pub returns : goal.returns
returns g c = coding_law _ _ _
