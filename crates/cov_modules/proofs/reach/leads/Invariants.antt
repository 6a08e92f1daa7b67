use Rattle.cov_modules.specs.Names.{HasSame}
use Rattle.cov_modules.proofs.ReachLemmas.{IsSearch}
use Rattle.cov_modules.proofs.reach.leads.Given as goal

abbrev pub invariant-loop-next : goal.invariant-loop-next
invariant-loop-next l = record {
  same : HasSame l.seen l.found;
  found : IsSearch l.p l.from l.found l.next;
}
