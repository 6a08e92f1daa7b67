use Rattle.std.proofs.Common.{◌∙◌, sym}
use Rattle.cov_modules.specs.NameFaults.{unknown_at}
use Rattle.cov_flat.specs.Reading.{flat_walk}
use Rattle.cov_flat.proofs.PassLemmas.{reader_at, pass_hit, pass_miss, pass_none}
use Rattle.cov_flat.proofs.faults.unknown_name.Goals as goal

pub unknown_at-requires : goal.unknown_at-requires
unknown_at-requires c =
    reader_at c.args.p.now c.args.scopes.now c.requires c.stops.result.now c.stops.ensures c.len-number-end.result c.len-number-end.ensures c.loop-number.number c.loop-number-test.true

pub returns-in-Some : goal.returns-in-Some
unfolding flat_walk
returns-in-Some c =
    sym (pass_hit c.args.p.now c.args.scopes.now c.requires c.stops.result.now c.stops.ensures c.len-number-end.result c.len-number-end.ensures
    (unknown_at c.args.p.now) c.loop-number.number c.in-Some.place c.loop-number-test.true (sym c.in-Some.ensures))
    ∙ c.loop-number.invariant

pub loop-number-preserved : goal.loop-number-preserved
loop-number-preserved c =
    pass_miss c.args.p.now c.args.scopes.now c.requires c.stops.result.now c.stops.ensures c.len-number-end.result c.len-number-end.ensures
    (unknown_at c.args.p.now) c.loop-number.number c.loop-number-test.true (sym c.in_default.ensures)
    ∙ c.loop-number.invariant

pub returns : goal.returns
unfolding flat_walk
returns c =
    sym (pass_none c.args.p.now c.args.scopes.now c.requires c.stops.result.now c.stops.ensures c.len-number-end.result c.len-number-end.ensures
    (unknown_at c.args.p.now) c.loop-number.number c.loop-number-test.false)
    ∙ c.loop-number.invariant
