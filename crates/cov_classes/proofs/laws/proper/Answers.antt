use Rattle.cov_classes.proofs.Parts.{proper}
use Rattle.cov_classes.proofs.laws.proper.Goals as goal

pub returns : goal.returns
returns c = λ counts set. proper counts set
