use Rattle.cov_first_fault.proofs.FirstFaults.{some_fault}
use Rattle.cov_first_fault.proofs.laws.some.Goals as goal

pub returns : goal.returns
returns c = λ end xs. some_fault end xs
