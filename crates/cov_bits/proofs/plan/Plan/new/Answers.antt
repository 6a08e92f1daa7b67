use Rattle.std.proofs.Common.{◌∙◌, arith}
use Rattle.cov_bits.proofs.Growing.{grows}
use Rattle.cov_bits.proofs.plan.Plan.new.Goals as goal

pub overflow_cast-len : goal.overflow_cast-len
overflow_cast-len c =
    let g = grows _ _ _ _ _ _ c.requires c.as_slice-x-items.ensures c.loop-x-test.true c.x-item.is c.len.ensures c.loop-x.invariant in
    omega (arith, g.sized.1)

pub add-requires-clause-some : goal.add-requires-clause-some
add-requires-clause-some c = (grows _ _ _ _ _ _ c.requires c.as_slice-x-items.ensures c.loop-x-test.true c.x-item.is c.len.ensures c.loop-x.invariant).sized.0

pub add-requires-clause-small : goal.add-requires-clause-small
add-requires-clause-small c = (grows _ _ _ _ _ _ c.requires c.as_slice-x-items.ensures c.loop-x-test.true c.x-item.is c.len.ensures c.loop-x.invariant).sized.1

pub add-requires-clause-fits : goal.add-requires-clause-fits
add-requires-clause-fits c = (grows _ _ _ _ _ _ c.requires c.as_slice-x-items.ensures c.loop-x-test.true c.x-item.is c.len.ensures c.loop-x.invariant).few

pub loop-x-preserved : goal.loop-x-preserved
loop-x-preserved c = c.in_ok-add.ensures.ok ∙ ((grows _ _ _ _ _ _ c.requires c.as_slice-x-items.ensures c.loop-x-test.true c.x-item.is c.len.ensures c.loop-x.invariant).next)
