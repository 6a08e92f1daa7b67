use Rattle.std.proofs.Common.{sym, subst}
use Rattle.cov_dd.specs.Nodes.{TableOf}
use Rattle.cov_dd.specs.Memo.{AllRight}
use Rattle.cov_dd.proofs.table.Table.collect_slice.Goals as goal

pub invariant_of-self : goal.invariant_of-self
invariant_of-self c = subst (λ (x : TableOf). AllRight x c.self.inside.memo) (sym c.in_err-collect.ensures.err.0) c.self.invariant
