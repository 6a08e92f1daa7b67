use Rattle.std.proofs.Common.{rules, ◌++◌, refl, sym, ap, ◌∙◌, codes}
use Rattle.std.proofs.lemmas.Result.{IfOk-weaker}
use Rattle.cov_syntax.specs.Tokens.{Text}
use Rattle.cov_evid.specs.Cursors.{fault_in, IsRefusal}
use Rattle.cov_evid.specs.FirstFault as spec
use Rattle.cov_evid.specs.declared.fault.EvidFaultKind.TheVariants as kind
use Rattle.cov_evid.specs.declared.fault.EvidRefused.TheVariants.{Fault}
use Rattle.cov_evid.proofs.Taking.{one_taken, refused_in}
use Rattle.cov_evid.proofs.Walking.{cut_is, err_exit, goes_on, is_wrong}
use Rattle.cov_evid.proofs.states.read_at.Goals as goal

pub returns-in_err-next-clause-fault : goal.returns-in_err-next-clause-fault
returns-in_err-next-clause-fault c =
    err_exit c.from_residual.result (Fault c.in_err-next.field-0.0) (IsRefusal (fault_in c.args.m.now spec.for_state c.args.lines.now)) (search rules) (cut_is c.args.m.now spec.for_state c.args.lines.now _ refl c.in_err-next.ensures.err)

pub returns-in-Some-clause-ok : goal.returns-in-Some-clause-ok
returns-in-Some-clause-ok c =
    IfOk-weaker c.state_in.result _ _ (λ s h. (h.0, one_taken _ _ _ _ c.in_ok-next.ensures.ok (c.in-Some.ensures.some ∙ ap (λ (t : Text). codes "at " ++ t) h.1))) c.state_in.ensures.ok

pub returns-in-Some-clause-on : goal.returns-in-Some-clause-on
returns-in-Some-clause-on c =
    IfOk-weaker c.state_in.result _ _ (λ s h. goes_on c.args.m.now spec.for_state _ _ _ c.in_ok-next.ensures.ok spec.for_stem (sym (ap (spec.past_at c.args.m.now) c.in-Some.ensures.value) ∙ h)) (c.state_in.ensures.on spec.for_stem)

pub returns-in-Some-clause-fault : goal.returns-in-Some-clause-fault
returns-in-Some-clause-fault c =
    refused_in c.args.m.now spec.for_state _ _ _ (spec.past_state c.args.m.now c.in-Some.text.now spec.for_stem) _ c.state_in.result c.in_ok-next.ensures.ok c.number-number.ensures (sym (ap (spec.past_at c.args.m.now) c.in-Some.ensures.value)) (c.state_in.ensures.fault spec.for_stem)

pub returns-in-None-clause-fault : goal.returns-in-None-clause-fault
returns-in-None-clause-fault c = rw (c.at.ensures, c.number-number.ensures) (is_wrong c.args.m.now spec.for_state _ _ _ c.in_ok-next.ensures.ok kind.Line (sym (ap (spec.past_at c.args.m.now) c.in-None.ensures.value)))
