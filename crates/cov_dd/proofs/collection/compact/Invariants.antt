use Rattle.cov_dd.proofs.MarkLemmas.{Moving}
use Rattle.cov_dd.proofs.collection.compact.Given as goal

abbrev pub invariant-loop-i : goal.invariant-loop-i
invariant-loop-i l = Moving l.fn.nodes l.nodes l.marks l.places l.i l.next
