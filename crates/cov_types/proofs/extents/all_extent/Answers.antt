use Rattle.cov_types.proofs.ExtentLemmas.{next}
use Rattle.cov_types.proofs.extents.all_extent.Goals as goal

pub loop-e-preserved : goal.loop-e-preserved
loop-e-preserved c =
    next c.args.kinds.now c.as_slice-e-items.result.now c.loop-e.e-index c.e-item.result c.loop-e.found c.in_ok-one_extent.field-0 c.joined-found.result
    c.loop-e-test.true c.e-item.is c.loop-e.invariant c.in_ok-one_extent.ensures c.joined-found.ensures
