use Rattle.cov_flat.specs.Entries as spec
use Rattle.cov_flat.proofs.PassLemmas.{reader_at, pass_step, pass_end}
use Rattle.cov_flat.proofs.definitions.definitions.Goals as goal

pub push_definitions-requires : goal.push_definitions-requires
push_definitions-requires c =
    reader_at c.args.p.now c.args.scopes.now c.requires c.stops.result.now c.stops.ensures c.len-number-end.result c.len-number-end.ensures c.loop-number.number c.loop-number-test.true

pub loop-number-preserved : goal.loop-number-preserved
loop-number-preserved c =
    pass_step c.args.p.now c.args.scopes.now c.requires c.stops.result.now c.stops.ensures c.len-number-end.result c.len-number-end.ensures
    (spec.definitions_of c.args.p.now) c.loop-number.number c.loop-number.found.items c.loop-number.invariant c.push_definitions.new.found.items c.loop-number-test.true c.in_ok-push_definitions.ensures

pub returns : goal.returns
returns c =
    pass_end c.args.p.now c.args.scopes.now c.requires c.stops.result.now c.stops.ensures c.len-number-end.result c.len-number-end.ensures
    (spec.definitions_of c.args.p.now) c.loop-number.number c.loop-number.found.items c.loop-number.invariant c.loop-number-test.false
