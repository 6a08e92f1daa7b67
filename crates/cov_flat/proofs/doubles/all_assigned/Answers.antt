use Rattle.cov_flat.specs.Doubles as spec
use Rattle.cov_flat.proofs.PassLemmas.{reader_at, pass_step, pass_end}
use Rattle.cov_flat.proofs.doubles.all_assigned.Goals as goal

pub push_all_assigned-requires : goal.push_all_assigned-requires
push_all_assigned-requires c =
    reader_at c.args.p.now c.args.scopes.now c.requires c.stops.result.now c.stops.ensures c.len-number-end.result c.len-number-end.ensures c.loop-number.number c.loop-number-test.true

pub loop-number-preserved : goal.loop-number-preserved
loop-number-preserved c =
    pass_step c.args.p.now c.args.scopes.now c.requires c.stops.result.now c.stops.ensures c.len-number-end.result c.len-number-end.ensures
    (spec.marks_of c.args.p.now) c.loop-number.number (spec.marks c.args.p.now c.loop-number.found) c.loop-number.invariant (spec.marks c.args.p.now c.push_all_assigned.new.found) c.loop-number-test.true c.in_ok-push_all_assigned.ensures

pub returns : goal.returns
returns c =
    pass_end c.args.p.now c.args.scopes.now c.requires c.stops.result.now c.stops.ensures c.len-number-end.result c.len-number-end.ensures
    (spec.marks_of c.args.p.now) c.loop-number.number (spec.marks c.args.p.now c.loop-number.found) c.loop-number.invariant c.loop-number-test.false
