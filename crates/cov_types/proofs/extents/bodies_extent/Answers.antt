use Rattle.cov_model.specs.declared.model.Define.{Define}
use Rattle.cov_types.proofs.ExtentLemmas.{one_more}
use Rattle.cov_types.proofs.extents.bodies_extent.Goals as goal

pub loop-d-preserved : goal.loop-d-preserved
loop-d-preserved c =
    one_more (λ (d : Define). d.body) c.args.kinds.now c.as_slice-d-items.result.now c.loop-d.d-index c.d-item.result c.loop-d.found c.in_ok-one_extent.field-0 c.joined-found.result
    c.loop-d-test.true c.d-item.is c.loop-d.invariant c.in_ok-one_extent.ensures c.joined-found.ensures
