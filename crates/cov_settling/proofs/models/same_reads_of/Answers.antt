use Rattle.cov_settling.proofs.SettledFlat.{same_reads_of}
use Rattle.cov_settling.proofs.models.same_reads_of.Goals as goal

pub returns : goal.returns
returns c = λ m. same_reads_of m
