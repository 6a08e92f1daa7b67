use Rattle.cov_settling.proofs.Kept.{same_depth}
use Rattle.cov_settling.proofs.keeping.same_depth.Goals as goal

pub returns : goal.returns
returns c = λ ks b e. same_depth ks b e
