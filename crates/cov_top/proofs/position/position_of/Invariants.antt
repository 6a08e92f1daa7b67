use Rattle.cov_top.proofs.PositionLemmas.{CountsTo}
use Rattle.cov_top.proofs.position.position_of.Given as goal

abbrev pub invariant-loop-byte : goal.invariant-loop-byte
invariant-loop-byte l = CountsTo l.front l.byte-index l.position.line l.position.column
