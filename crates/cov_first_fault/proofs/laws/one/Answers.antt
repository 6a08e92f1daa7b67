use Rattle.cov_first_fault.proofs.FirstFaults.{one_fault}
use Rattle.cov_first_fault.proofs.laws.one.Goals as goal

pub returns : goal.returns
returns c = λ end xs f g a b. one_fault a b
