use Rattle.cov_first_fault.proofs.FirstFaults.{stop_fault_is}
use Rattle.cov_first_fault.proofs.laws.stop.Goals as goal

pub returns : goal.returns
returns c = λ end xs e is shallow. stop_fault_is end xs e is shallow
