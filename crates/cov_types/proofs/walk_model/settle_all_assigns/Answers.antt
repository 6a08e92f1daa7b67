use Rattle.std.proofs.Common.{List, Some, ◌++◌, map, rules}
use Rattle.cov_model.specs.declared.model.Model.{Model}
use Rattle.cov_model.specs.Kinds.{Kinds}
use Rattle.cov_model.specs.Settled.{assign_fault, chosen, chosen_next, moving, steady, timed, whole_fault}
use Rattle.cov_model.specs.Walk.{truth}
use Rattle.cov_walk.specs.Places.{may_of}
use Rattle.cov_types.proofs.Tells.{exit_tells, none_both, tells_before, tells_behind}
use Rattle.cov_types.proofs.Walking.{assigns_none, assigns_tell, conditions_none, conditions_tell}
use Rattle.cov_types.proofs.walk_model.settle_all_assigns.Goals as goal

pub returns-in_err-nows-clause-err : goal.returns-in_err-nows-clause-err
returns-in_err-nows-clause-err c =
    let ks : Kinds = c.args.kinds.now in
    let m : Model = c.args.m.now in
    exit_tells c.from_residual.result c.in_err-nows.field-0.0 _ (search rules)
    (tells_before ((map (assign_fault ks chosen) m.nows) ++ (map (assign_fault ks chosen) m.firsts)) (map (assign_fault ks chosen_next) m.nexts) c.in_err-nows.field-0.0
    (tells_before (map (assign_fault ks chosen) m.nows) (map (assign_fault ks chosen) m.firsts) c.in_err-nows.field-0.0
    (assigns_tell ks (may_of c.chosen.result) chosen m.nows c.in_err-nows.field-0.0 c.chosen.ensures c.in_err-nows.ensures.err)))

pub returns-in_err-firsts-clause-err : goal.returns-in_err-firsts-clause-err
returns-in_err-firsts-clause-err c =
    let ks : Kinds = c.args.kinds.now in
    let m : Model = c.args.m.now in
    exit_tells c.from_residual-in_err-firsts.result c.in_err-firsts.field-0.0 _ (search rules)
    (tells_before ((map (assign_fault ks chosen) m.nows) ++ (map (assign_fault ks chosen) m.firsts)) (map (assign_fault ks chosen_next) m.nexts) c.in_err-firsts.field-0.0
    (tells_behind (map (assign_fault ks chosen) m.nows) (map (assign_fault ks chosen) m.firsts) c.in_err-firsts.field-0.0 (assigns_none ks (may_of c.chosen.result) chosen m.nows c.chosen.ensures c.in_ok-nows.ensures.none)
    (assigns_tell ks (may_of c.chosen-2.result) chosen m.firsts c.in_err-firsts.field-0.0 c.chosen-2.ensures c.in_err-firsts.ensures.err)))

pub returns-in_err-nexts-clause-err : goal.returns-in_err-nexts-clause-err
returns-in_err-nexts-clause-err c =
    let ks : Kinds = c.args.kinds.now in
    let m : Model = c.args.m.now in
    exit_tells c.from_residual-in_err-nexts.result c.in_err-nexts.field-0.0 _ (search rules)
    (tells_behind ((map (assign_fault ks chosen) m.nows) ++ (map (assign_fault ks chosen) m.firsts)) (map (assign_fault ks chosen_next) m.nexts) c.in_err-nexts.field-0.0 (none_both (map (assign_fault ks chosen) m.nows) (map (assign_fault ks chosen) m.firsts) (assigns_none ks (may_of c.chosen.result) chosen m.nows c.chosen.ensures c.in_ok-nows.ensures.none) (assigns_none ks (may_of c.chosen-2.result) chosen m.firsts c.chosen-2.ensures c.in_ok-firsts.ensures.none))
    (assigns_tell ks (may_of c.chosen_next.result) chosen_next m.nexts c.in_err-nexts.field-0.0 c.chosen_next.ensures c.in_err-nexts.ensures.err))

pub returns-clause-none : goal.returns-clause-none
returns-clause-none c =
    let ks : Kinds = c.args.kinds.now in
    let m : Model = c.args.m.now in
    none_both ((map (assign_fault ks chosen) m.nows) ++ (map (assign_fault ks chosen) m.firsts)) (map (assign_fault ks chosen_next) m.nexts) (none_both (map (assign_fault ks chosen) m.nows) (map (assign_fault ks chosen) m.firsts) (assigns_none ks (may_of c.chosen.result) chosen m.nows c.chosen.ensures c.in_ok-nows.ensures.none) (assigns_none ks (may_of c.chosen-2.result) chosen m.firsts c.chosen-2.ensures c.in_ok-firsts.ensures.none)) (assigns_none ks (may_of c.chosen_next.result) chosen_next m.nexts c.chosen_next.ensures c.in_ok-nexts.ensures.none)
