use Rattle.std.proofs.Common.{◌++◌}
use Rattle.cov_model.specs.declared.model.Model.{Model}
use Rattle.cov_model.specs.Kinds.{Kinds}
use Rattle.cov_ranges.proofs.Places.{inits_stand, invars_stand, trans_stand, fair_stand, specs_stand}
use Rattle.cov_types.proofs.ExtentLemmas.{all_pass, both}
use Rattle.cov_types.proofs.extents.conditions_extent.Goals as goal

pub all_extent-requires : goal.all_extent-requires
all_extent-requires c = all_pass c.args.m.now c.args.kinds.now c.args.m.now.inits c.requires (inits_stand c.args.m.now)

pub all_extent-requires-2 : goal.all_extent-requires-2
all_extent-requires-2 c = all_pass c.args.m.now c.args.kinds.now c.args.m.now.invars c.requires (invars_stand c.args.m.now)

pub all_extent-requires-3 : goal.all_extent-requires-3
all_extent-requires-3 c = all_pass c.args.m.now c.args.kinds.now c.args.m.now.trans c.requires (trans_stand c.args.m.now)

pub all_extent-requires-4 : goal.all_extent-requires-4
all_extent-requires-4 c = all_pass c.args.m.now c.args.kinds.now c.args.m.now.fair c.requires (fair_stand c.args.m.now)

pub all_extent-requires-5 : goal.all_extent-requires-5
all_extent-requires-5 c = all_pass c.args.m.now c.args.kinds.now c.args.m.now.specs c.requires (specs_stand c.args.m.now)

pub returns : goal.returns
returns c =
    let m : Model = c.args.m.now in
    let ks : Kinds = c.args.kinds.now in
    let two = both ks m.inits m.invars c.in_ok-inits.inits c.in_ok-invars.invars c.joined.result c.in_ok-inits.ensures c.in_ok-invars.ensures c.joined.ensures in
    let three = both ks (m.inits ++ m.invars) m.trans c.joined.result c.in_ok-trans.trans c.joined-2.result two c.in_ok-trans.ensures c.joined-2.ensures in
    let four = both ks (m.inits ++ m.invars ++ m.trans) m.fair c.joined-2.result c.in_ok-fair.fair c.joined-3.result three c.in_ok-fair.ensures c.joined-3.ensures in
    both ks (m.inits ++ m.invars ++ m.trans ++ m.fair) m.specs c.joined-3.result c.in_ok-specs.specs c.joined-4.result four c.in_ok-specs.ensures c.joined-4.ensures
