use Rattle.cov_model.specs.declared.model.Assign.{Assign}
use Rattle.cov_types.proofs.ExtentLemmas.{one_more}
use Rattle.cov_types.proofs.extents.sides_extent.Goals as goal

pub loop-a-preserved : goal.loop-a-preserved
loop-a-preserved c =
    one_more (λ (a : Assign). a.body) c.args.kinds.now c.as_slice-a-items.result.now c.loop-a.a-index c.a-item.result c.loop-a.found c.in_ok-one_extent.field-0 c.joined-found.result
    c.loop-a-test.true c.a-item.is c.loop-a.invariant c.in_ok-one_extent.ensures c.joined-found.ensures
