use Rattle.cov_first_fault.proofs.FirstFaults.{no_fault}
use Rattle.cov_first_fault.proofs.laws.none.Goals as goal

pub returns : goal.returns
returns c = λ end xs trees f p shallow a. no_fault trees p shallow a
