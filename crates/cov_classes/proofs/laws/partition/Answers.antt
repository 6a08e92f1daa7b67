use Rattle.cov_classes.proofs.Counting.{partition}
use Rattle.cov_classes.proofs.laws.partition.Goals as goal

pub returns : goal.returns
returns c = λ counts set. partition counts set
