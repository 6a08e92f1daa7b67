use Rattle.std.proofs.Common.{List, Some, ◌++◌, map, rules}
use Rattle.cov_model.specs.declared.model.Model.{Model}
use Rattle.cov_model.specs.Kinds.{Kinds}
use Rattle.cov_model.specs.Settled.{assign_fault, chosen, chosen_next, moving, steady, timed, whole_fault}
use Rattle.cov_model.specs.Walk.{truth}
use Rattle.cov_walk.specs.Places.{may_of}
use Rattle.cov_types.proofs.Tells.{exit_tells, none_both, tells_before, tells_behind}
use Rattle.cov_types.proofs.Walking.{assigns_none, assigns_tell, conditions_none, conditions_tell}
use Rattle.cov_types.proofs.walk_model.settle_states.Goals as goal

pub returns-in_err-inits-clause-err : goal.returns-in_err-inits-clause-err
returns-in_err-inits-clause-err c =
    let ks : Kinds = c.args.kinds.now in
    let m : Model = c.args.m.now in
    exit_tells c.from_residual.result c.in_err-inits.field-0.0 _ (search rules)
    (tells_before (map (whole_fault ks steady (Some truth)) m.inits) (map (whole_fault ks steady (Some truth)) m.invars) c.in_err-inits.field-0.0
    (conditions_tell ks (may_of c.steady.result) steady m.inits c.in_err-inits.field-0.0 c.steady.ensures c.in_err-inits.ensures.err))

pub returns-in_err-invars-clause-err : goal.returns-in_err-invars-clause-err
returns-in_err-invars-clause-err c =
    let ks : Kinds = c.args.kinds.now in
    let m : Model = c.args.m.now in
    exit_tells c.from_residual-in_err-invars.result c.in_err-invars.field-0.0 _ (search rules)
    (tells_behind (map (whole_fault ks steady (Some truth)) m.inits) (map (whole_fault ks steady (Some truth)) m.invars) c.in_err-invars.field-0.0 (conditions_none ks (may_of c.steady.result) steady m.inits c.steady.ensures c.in_ok-inits.ensures.none)
    (conditions_tell ks (may_of c.steady-2.result) steady m.invars c.in_err-invars.field-0.0 c.steady-2.ensures c.in_err-invars.ensures.err))

pub returns-clause-none : goal.returns-clause-none
returns-clause-none c =
    let ks : Kinds = c.args.kinds.now in
    let m : Model = c.args.m.now in
    none_both (map (whole_fault ks steady (Some truth)) m.inits) (map (whole_fault ks steady (Some truth)) m.invars) (conditions_none ks (may_of c.steady.result) steady m.inits c.steady.ensures c.in_ok-inits.ensures.none) (conditions_none ks (may_of c.steady-2.result) steady m.invars c.steady-2.ensures c.in_ok-invars.ensures.none)
