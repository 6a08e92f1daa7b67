use Rattle.std.proofs.Common.{◌∙◌}
use Rattle.cov_space.specs.Sets.{set_at}
use Rattle.cov_nodes.specs.Made.{negative}
use Rattle.cov_nodes.proofs.Operating.{carried_few, carried_fit, made_put}
use Rattle.cov_nodes.proofs.operate.put_negated.Goals as goal

pub put_carried-requires-clause-few : goal.put_carried-requires-clause-few
put_carried-requires-clause-few c = carried_few negative c.args.xs.now c.args.results.now c.as_slice.result.now c.index_of-from.result c.requires.operand.some (c.as_slice.ensures.value ∙ c.in-Ok.ensures) c.index_of-from.ensures

pub put_carried-requires-clause-fit : goal.put_carried-requires-clause-fit
put_carried-requires-clause-fit c = carried_fit negative c.args.xs.now c.args.results.now c.as_slice.result.now c.index_of-to.result (c.as_slice.ensures.value ∙ c.in-Ok.ensures) c.index_of-to.ensures

pub returns-clause-ok : goal.returns-clause-ok
returns-clause-ok c = λ m at f is.
    made_put c.put_carried.result c.layers_are_apart.ensures c.args.sp.now c.put_carried.new.sp m at negative c.args.xs.now c.args.results.now f (set_at c.args.sp.now.sets c.args.a) c.as_slice.result.now c.index_of-from.result c.index_of-to.result
    c.index_of-from.ensures c.index_of-to.ensures c.requires.operand.fits c.requires.results.once (c.as_slice.ensures.value ∙ c.in-Ok.ensures) is c.put_carried.ensures.ok
