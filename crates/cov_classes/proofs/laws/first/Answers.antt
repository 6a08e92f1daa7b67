use Rattle.cov_classes.proofs.Firsts.{first}
use Rattle.cov_classes.proofs.laws.first.Goals as goal

pub returns : goal.returns
returns c = λ counts set. first counts set
