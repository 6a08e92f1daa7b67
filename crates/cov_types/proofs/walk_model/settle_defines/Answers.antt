use Rattle.std.proofs.Common.{◌≡◌, List, sym, ◌∙◌, rules, subst, ap}
use Rattle.cov_syntax.specs.declared.fault.Refused.{Refused}
use Rattle.cov_model.specs.declared.model.Define.{Define}
use Rattle.cov_model.specs.Kinds.{Kind}
use Rattle.cov_model.specs.Settled.{define_faults}
use Rattle.cov_model.specs.Walk.{first}
use Rattle.cov_types.proofs.Defining.{faults_next, kinds_next, refused, settled_next, vars_next}
use Rattle.cov_types.proofs.Tells.{exit_tells}
use Rattle.cov_walk.specs.Found.{TellsFault}
use Rattle.cov_types.proofs.walk_model.settle_defines.Goals as goal

pub returns-in_err-settle_define-clause-err : goal.returns-in_err-settle_define-clause-err
returns-in_err-settle_define-clause-err c =
    let e : Refused = c.in_err-settle_define.field-0.0 in
    let ds : List Define = c.as_slice-d-items.result.now in
    let vs : List Kind = c.args.kinds.now.vars in
    exit_tells c.from_residual.result e _ (search rules)
    (subst (λ (xs : List Define). TellsFault (first (define_faults vs xs _)) e) c.as_slice-d-items.ensures
    (refused vs ds c.loop-d.d-index c.d-item.result c.loop-d.kinds c.loop-d-test.true c.d-item.is c.loop-d.invariant.vars e c.loop-d.invariant.faults c.in_err-settle_define.ensures.err))

pub loop-d-preserved : goal.loop-d-preserved
loop-d-preserved c =
    let ds : List Define = c.as_slice-d-items.result.now in
    let vs : List Kind = c.args.kinds.now.vars in
    record {
      vars = vars_next vs ds c.loop-d.d-index c.d-item.result c.loop-d.kinds c.loop-d-test.true c.d-item.is c.loop-d.invariant.vars c.settle_define.new.kinds c.in_ok-settle_define.ensures.kinds;
      kinds = kinds_next vs ds c.loop-d.d-index c.d-item.result c.loop-d.kinds c.loop-d-test.true c.d-item.is c.loop-d.invariant.vars c.settle_define.new.kinds c.in_ok-settle_define.ensures.kinds
          ∙ c.loop-d.invariant.kinds;
      faults = faults_next vs ds c.loop-d.d-index c.d-item.result c.loop-d.kinds c.loop-d-test.true c.d-item.is c.loop-d.invariant.vars c.settle_define.new.kinds c.in_ok-settle_define.ensures.kinds c.in_ok-settle_define.ensures.none
          ∙ c.loop-d.invariant.faults;
      settled = settled_next vs ds c.loop-d.d-index c.d-item.result c.loop-d.kinds c.loop-d-test.true c.d-item.is c.loop-d.invariant.vars c.settle_define.new.kinds c.in_ok-settle_define.ensures.kinds
          c.loop-d.copies c.push.new.self c.in_ok-settle_define.field-0 c.in_ok-settle_define.ensures.settled c.in_ok-push.ensures.ok
          ∙ c.loop-d.invariant.settled;
    }
