use Rattle.cov_settling.proofs.Kept.{same_reads}
use Rattle.cov_settling.proofs.keeping.same_reads.Goals as goal

pub returns : goal.returns
returns c = λ ks b e. same_reads ks b e
