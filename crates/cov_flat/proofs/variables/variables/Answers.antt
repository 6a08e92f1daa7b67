use Rattle.cov_flat.specs.Entries as spec
use Rattle.cov_flat.proofs.PassLemmas.{reader_at, pass_step, pass_end}
use Rattle.cov_flat.proofs.variables.variables.Goals as goal

pub push_variables-requires : goal.push_variables-requires
push_variables-requires c =
    reader_at c.args.p.now c.args.scopes.now c.requires c.stops.result.now c.stops.ensures c.len-number-end.result c.len-number-end.ensures c.loop-number.number c.loop-number-test.true

pub loop-number-preserved : goal.loop-number-preserved
loop-number-preserved c =
    pass_step c.args.p.now c.args.scopes.now c.requires c.stops.result.now c.stops.ensures c.len-number-end.result c.len-number-end.ensures
    (spec.variables_of c.args.p.now) c.loop-number.number c.loop-number.found.items c.loop-number.invariant c.push_variables.new.found.items c.loop-number-test.true c.in_ok-push_variables.ensures

pub returns : goal.returns
returns c =
    pass_end c.args.p.now c.args.scopes.now c.requires c.stops.result.now c.stops.ensures c.len-number-end.result c.len-number-end.ensures
    (spec.variables_of c.args.p.now) c.loop-number.number c.loop-number.found.items c.loop-number.invariant c.loop-number-test.false
