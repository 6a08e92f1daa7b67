use Rattle.std.proofs.Common.{List, Some, ◌++◌, map, rules}
use Rattle.cov_model.specs.declared.model.Model.{Model}
use Rattle.cov_model.specs.Kinds.{Kinds}
use Rattle.cov_model.specs.Settled.{assign_fault, chosen, chosen_next, moving, steady, timed, whole_fault}
use Rattle.cov_model.specs.Walk.{truth}
use Rattle.cov_walk.specs.Places.{may_of}
use Rattle.cov_types.proofs.Tells.{exit_tells, none_both, tells_before, tells_behind}
use Rattle.cov_types.proofs.Walking.{assigns_none, assigns_tell, conditions_none, conditions_tell}
use Rattle.cov_types.proofs.walk_model.settle_paths.Goals as goal

pub returns-in_err-trans-clause-err : goal.returns-in_err-trans-clause-err
returns-in_err-trans-clause-err c =
    let ks : Kinds = c.args.kinds.now in
    let m : Model = c.args.m.now in
    exit_tells c.from_residual.result c.in_err-trans.field-0.0 _ (search rules)
    (tells_before ((map (whole_fault ks moving (Some truth)) m.trans) ++ (map (whole_fault ks steady (Some truth)) m.fair)) (map (whole_fault ks timed (Some truth)) m.specs) c.in_err-trans.field-0.0
    (tells_before (map (whole_fault ks moving (Some truth)) m.trans) (map (whole_fault ks steady (Some truth)) m.fair) c.in_err-trans.field-0.0
    (conditions_tell ks (may_of c.moving.result) moving m.trans c.in_err-trans.field-0.0 c.moving.ensures c.in_err-trans.ensures.err)))

pub returns-in_err-fair-clause-err : goal.returns-in_err-fair-clause-err
returns-in_err-fair-clause-err c =
    let ks : Kinds = c.args.kinds.now in
    let m : Model = c.args.m.now in
    exit_tells c.from_residual-in_err-fair.result c.in_err-fair.field-0.0 _ (search rules)
    (tells_before ((map (whole_fault ks moving (Some truth)) m.trans) ++ (map (whole_fault ks steady (Some truth)) m.fair)) (map (whole_fault ks timed (Some truth)) m.specs) c.in_err-fair.field-0.0
    (tells_behind (map (whole_fault ks moving (Some truth)) m.trans) (map (whole_fault ks steady (Some truth)) m.fair) c.in_err-fair.field-0.0 (conditions_none ks (may_of c.moving.result) moving m.trans c.moving.ensures c.in_ok-trans.ensures.none)
    (conditions_tell ks (may_of c.steady.result) steady m.fair c.in_err-fair.field-0.0 c.steady.ensures c.in_err-fair.ensures.err)))

pub returns-in_err-specs-clause-err : goal.returns-in_err-specs-clause-err
returns-in_err-specs-clause-err c =
    let ks : Kinds = c.args.kinds.now in
    let m : Model = c.args.m.now in
    exit_tells c.from_residual-in_err-specs.result c.in_err-specs.field-0.0 _ (search rules)
    (tells_behind ((map (whole_fault ks moving (Some truth)) m.trans) ++ (map (whole_fault ks steady (Some truth)) m.fair)) (map (whole_fault ks timed (Some truth)) m.specs) c.in_err-specs.field-0.0 (none_both (map (whole_fault ks moving (Some truth)) m.trans) (map (whole_fault ks steady (Some truth)) m.fair) (conditions_none ks (may_of c.moving.result) moving m.trans c.moving.ensures c.in_ok-trans.ensures.none) (conditions_none ks (may_of c.steady.result) steady m.fair c.steady.ensures c.in_ok-fair.ensures.none))
    (conditions_tell ks (may_of c.timed.result) timed m.specs c.in_err-specs.field-0.0 c.timed.ensures c.in_err-specs.ensures.err))

pub returns-clause-none : goal.returns-clause-none
returns-clause-none c =
    let ks : Kinds = c.args.kinds.now in
    let m : Model = c.args.m.now in
    none_both ((map (whole_fault ks moving (Some truth)) m.trans) ++ (map (whole_fault ks steady (Some truth)) m.fair)) (map (whole_fault ks timed (Some truth)) m.specs) (none_both (map (whole_fault ks moving (Some truth)) m.trans) (map (whole_fault ks steady (Some truth)) m.fair) (conditions_none ks (may_of c.moving.result) moving m.trans c.moving.ensures c.in_ok-trans.ensures.none) (conditions_none ks (may_of c.steady.result) steady m.fair c.steady.ensures c.in_ok-fair.ensures.none)) (conditions_none ks (may_of c.timed.result) timed m.specs c.timed.ensures c.in_ok-specs.ensures.none)
