use Rattle.std.proofs.Common.{sym, ◌∙◌, ◌<◌, arith}
use Rattle.cov_paths.proofs.Giving.{nothing-given, caller-below, module-below, section-below, section-gives}
use Rattle.cov_paths.proofs.arguments.given.Goals as goal

pub returns-then-k-eq0 : goal.returns-then-k-eq0
returns-then-k-eq0 c = sym (nothing-given c.args.p.now c.args.stops.now c.requires.stops c.args.k c.requires.there c.if-k-eq0.true)

pub entry-caller-requires : goal.entry-caller-requires
entry-caller-requires c = caller-below c.args.p.now c.args.stops.now c.requires.stops c.args.k c.requires.there c.entry-entry.result c.entry-entry.ensures

pub get-m-requires : goal.get-m-requires
get-m-requires c = module-below c.args.p.now c.args.stops.now c.requires.stops c.args.k c.requires.there c.entry-entry.result c.entry-entry.ensures c.entry-caller.result c.entry-caller.ensures

pub get-requires : goal.get-requires
get-requires c =
    let later : 0 < c.args.k = omega arith in
    section-below c.args.p.now c.args.stops.now c.requires.stops c.args.k c.requires.there c.entry-entry.result c.entry-entry.ensures c.entry-caller.result c.entry-caller.ensures
    c.get-m.result.now c.get-m.ensures later

pub returns : goal.returns
returns c =
    let later : 0 < c.args.k = omega arith in
    c.given_in.ensures
    ∙ section-gives c.args.p.now c.args.stops.now c.requires.stops c.args.k c.requires.there c.entry-entry.result c.entry-entry.ensures c.entry-caller.result c.entry-caller.ensures
    c.get-m.result.now c.get-m.ensures later c.get.result.now c.get.ensures
