use Rattle.cov_first_fault.proofs.FirstFaults.{deep_fault_is}
use Rattle.cov_first_fault.proofs.laws.deep.Goals as goal

pub returns : goal.returns
returns c = λ end xs places e. deep_fault_is end xs places e
