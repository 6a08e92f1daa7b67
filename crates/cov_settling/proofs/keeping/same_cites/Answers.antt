use Rattle.cov_settling.proofs.Kept.{same_cites}
use Rattle.cov_settling.proofs.keeping.same_cites.Goals as goal

pub returns : goal.returns
returns c = λ m ks b e. same_cites m ks b e
