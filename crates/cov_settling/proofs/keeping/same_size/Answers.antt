use Rattle.cov_settling.proofs.Kept.{same_size}
use Rattle.cov_settling.proofs.keeping.same_size.Goals as goal

pub returns : goal.returns
returns c = λ ks b e. same_size ks b e
