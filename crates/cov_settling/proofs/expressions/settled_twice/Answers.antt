use Rattle.cov_settling.proofs.Settling.{settled_twice}
use Rattle.cov_settling.proofs.expressions.settled_twice.Goals as goal

pub returns : goal.returns
returns c = λ ks may b e f m. settled_twice ks may b e f m
