use Rattle.std.proofs.Common.{rules, ◌∙◌}
use Rattle.std.proofs.lemmas.Result.{IfOk-weaker}
use Rattle.cov_evid.specs.Cursors.{fault_in, IsRefusal}
use Rattle.cov_evid.specs.FirstFault as spec
use Rattle.cov_evid.specs.declared.fault.EvidRefused.TheVariants.{Fault}
use Rattle.cov_evid.proofs.Taking.{listed_cut, listed_full, listed_past, one_taken, refused_in, room_left, room_of}
use Rattle.cov_evid.proofs.Walking.{cut_is, err_exit, goes_on, refuted}
use Rattle.cov_evid.proofs.states.read_listed.Goals as goal

pub returns-then-is_one_too_many-clause-fault : goal.returns-then-is_one_too_many-clause-fault
returns-then-is_one_too_many-clause-fault c =
    λ from to l. let too_many = c.is_one_too_many.ensures.0 c.if-is_one_too_many.true in
    rw (c.at.ensures, c.number-number.ensures) (listed_full c.args.m.now from c.args.count to c.args.lines.now l too_many.0 too_many.1)

pub returns-in_err-line-clause-fault : goal.returns-in_err-line-clause-fault
returns-in_err-line-clause-fault c =
    λ from to l. let room = room_of c.args.count c.args.lines.now.rest (λ h. refuted _ c.if-is_one_too_many.false (c.is_one_too_many.ensures.1 h)) in
    err_exit c.from_residual.result (Fault c.in_err-line.field-0.0) (IsRefusal (fault_in c.args.m.now from c.args.lines.now)) (search rules)
    (cut_is c.args.m.now from c.args.lines.now _ (listed_cut c.args.m.now from c.args.count to c.args.lines.now l c.in_err-line.ensures.err.1 room) c.in_err-line.ensures.err)

pub returns-clause-ok : goal.returns-clause-ok
returns-clause-ok c =
    let room = room_of c.args.count c.args.lines.now.rest (λ h. refuted _ c.if-is_one_too_many.false (c.is_one_too_many.ensures.1 h)) in
    IfOk-weaker c.state_in.result _ _ (λ s h. (h.0, room_left c.args.count _ _ _ c.in_ok-line.ensures.ok room, one_taken _ _ _ _ c.in_ok-line.ensures.ok h.1)) c.state_in.ensures.ok

pub returns-clause-on : goal.returns-clause-on
returns-clause-on c =
    λ from to l. let room = room_of c.args.count c.args.lines.now.rest (λ h. refuted _ c.if-is_one_too_many.false (c.is_one_too_many.ensures.1 h)) in
    let next = c.in_ok-line.ensures.ok in
    IfOk-weaker c.state_in.result _ _
    (λ s h. goes_on c.args.m.now from _ _ _ next to (listed_past c.args.m.now from c.args.count to c.args.lines.now l _ _ next (room_left c.args.count _ _ _ next room) ∙ h)) (c.state_in.ensures.on to)

pub returns-clause-fault : goal.returns-clause-fault
returns-clause-fault c =
    λ from to l. let room = room_of c.args.count c.args.lines.now.rest (λ h. refuted _ c.if-is_one_too_many.false (c.is_one_too_many.ensures.1 h)) in
    let next = c.in_ok-line.ensures.ok in
    refused_in c.args.m.now from _ _ _ (spec.past_state c.args.m.now c.in_ok-line.line.now to) _ c.state_in.result next c.number-number.ensures
    (listed_past c.args.m.now from c.args.count to c.args.lines.now l _ _ next (room_left c.args.count _ _ _ next room)) (c.state_in.ensures.fault to)
