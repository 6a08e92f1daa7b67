use Rattle.std.proofs.Common.{◌∙◌}
use Rattle.cov_nodes.specs.Tables.{itself}
use Rattle.cov_nodes.proofs.Operating.{carried_few, carried_fit}
use Rattle.cov_nodes.proofs.gathered.put_own.Goals as goal

pub put_carried-requires-clause-few : goal.put_carried-requires-clause-few
put_carried-requires-clause-few c = carried_few itself c.args.part.now c.args.xs.now c.as_slice.result.now c.index_of-from.result c.requires.some (c.as_slice.ensures.value ∙ c.in-Ok.ensures) c.index_of-from.ensures

pub put_carried-requires-clause-fit : goal.put_carried-requires-clause-fit
put_carried-requires-clause-fit c = carried_fit itself c.args.part.now c.args.xs.now c.as_slice.result.now c.index_of-to.result (c.as_slice.ensures.value ∙ c.in-Ok.ensures) c.index_of-to.ensures
