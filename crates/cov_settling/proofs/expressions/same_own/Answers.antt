use Rattle.cov_settling.proofs.Settling.{same_own}
use Rattle.cov_settling.proofs.expressions.same_own.Goals as goal

pub returns : goal.returns
returns c = λ ks may b e f m. same_own ks may b e f m
