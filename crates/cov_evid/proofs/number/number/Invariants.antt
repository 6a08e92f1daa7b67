use Rattle.cov_evid.proofs.Numbers.{Reads}
use Rattle.cov_evid.proofs.number.number.Given as goal

abbrev pub invariant-loop-byte : goal.invariant-loop-byte
invariant-loop-byte l = Reads l.digits l.byte-index l.number
