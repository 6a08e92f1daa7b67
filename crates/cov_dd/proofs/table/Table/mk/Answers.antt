use Rattle.cov_dd.proofs.MemoLemmas.{right_kept}
use Rattle.cov_dd.proofs.table.Table.mk.Goals as goal

pub invariant_of-self : goal.invariant_of-self
invariant_of-self c = right_kept c.self.inside.store c.mk.new.self c.self.inside.memo c.mk.ensures.computes.extends.levels c.mk.ensures.keeps c.self.invariant
