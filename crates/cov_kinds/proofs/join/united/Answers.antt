use Rattle.std.proofs.Common.{List, IsTrue, nat_lt, length, subst, arith}
use Rattle.cov_syntax.specs.declared.tree.Value.{Value}
use Rattle.cov_kinds.proofs.Steps.{united_long}
use Rattle.cov_kinds.proofs.join.united.Goals as goal

pub returns-then-len-ge-MOST_VALUES : goal.returns-then-len-ge-MOST_VALUES
returns-then-len-ge-MOST_VALUES c =
    subst (λ (xs : List Value). IsTrue (nat_lt 1024 (length xs))) c.loop-x.invariant.whole
    (united_long _ _ _ c.loop-x-test.true (omega arith) (cc (c.in-None.ensures.found)))
