use Rattle.cov_settling.proofs.Kept.{same_place}
use Rattle.cov_settling.proofs.keeping.same_place.Goals as goal

pub returns : goal.returns
returns c = λ ks b e. same_place ks b e
