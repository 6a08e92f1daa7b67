use Rattle.cov_settling.proofs.Settling.{no_fault}
use Rattle.cov_settling.proofs.expressions.no_fault.Goals as goal

pub returns : goal.returns
returns c = λ ks may b e f m. no_fault ks may b e f m
