use Rattle.cov_settling.proofs.SettledModel.{same_kinds}
use Rattle.cov_settling.proofs.models.same_kinds.Goals as goal

pub returns : goal.returns
returns c = λ m f. same_kinds m f
