use Rattle.std.proofs.Common.{rules, [], ◌∷◌, ◌++◌, IsTrue, subst, refl, ◌∙◌, codes}
use Rattle.cov_model.specs.declared.model.Model.{Model}
use Rattle.cov_model.specs.States.{is_typed}
use Rattle.cov_show.specs.Cubes.{shown_vars}
use Rattle.cov_show.specs.States.{state_text}
use Rattle.cov_evid.specs.Cursors.{fault_in, IsRefusal, IsSole, IsTaken}
use Rattle.cov_evid.specs.FirstFault as spec
use Rattle.cov_evid.specs.declared.fault.EvidFaultKind.TheVariants as kind
use Rattle.cov_evid.specs.declared.fault.EvidRefused.TheVariants.{Fault}
use Rattle.cov_evid.proofs.Claims.{claim_on, no_claim, no_signal, occurrence_on, signal_claimed, sole_mutant, sole_occurrence}
use Rattle.cov_evid.proofs.Walking.{cut_is, err_exit, goes_on, is_wrong}
use Rattle.cov_evid.proofs.read.read_claim.Goals as goal

pub returns-in_err-line-clause-fault : goal.returns-in_err-line-clause-fault
returns-in_err-line-clause-fault c =
    err_exit c.from_residual.result (Fault c.in_err-line.field-0.0) (IsRefusal (fault_in c.args.m.now spec.for_claim c.args.lines.now)) (search rules) (cut_is c.args.m.now spec.for_claim c.args.lines.now _ refl c.in_err-line.ensures.err)

pub read_at-requires : goal.read_at-requires
read_at-requires c = rw c.model.ensures.value c.model.ensures.formed

pub returns-in_err-at-in-Some-signal-clause-fault : goal.returns-in_err-at-in-Some-signal-clause-fault
returns-in_err-at-in-Some-signal-clause-fault c =
    let on = claim_on c.args.m.now c.args.lines.now c.next.new.self _ c.in-Some.name.now c.in_ok-line.ensures.ok c.in-Some.ensures.value c.in-Some-signal.signal
    ((c.in-Some-signal.ensures c.in-Some-signal.signal).0 refl) in
    err_exit c.from_residual-in_err-at-in-Some-signal.result c.in_err-at-in-Some-signal.field-0.0 (IsRefusal (fault_in c.args.m.now spec.for_claim c.args.lines.now)) (search rules)
    (rw (on, ← c.model.ensures.value) c.in_err-at-in-Some-signal.ensures.fault)

pub returns-in_ok-at-in-Some-signal-clause-ok : goal.returns-in_ok-at-in-Some-signal-clause-ok
returns-in_ok-at-in-Some-signal-clause-ok c =
    let h = subst (λ (n : Model). IsTrue (is_typed n c.in_ok-at-in-Some-signal.at) × IsTaken c.next.new.self ((codes "at " ++ state_text (shown_vars n) c.in_ok-at-in-Some-signal.at) ∷ []) c.read_at.new.lines)
    c.model.ensures.value c.in_ok-at-in-Some-signal.ensures.ok in
    let claimed = signal_claimed c.args.m.now c.args.lines.now c.next.new.self c.read_at.new.lines _ c.in-Some.name.now c.in-Some-signal.signal c.in_ok-at-in-Some-signal.at
    c.in_ok-line.ensures.ok c.in-Some.ensures.some ((c.in-Some-signal.ensures c.in-Some-signal.signal).0 refl) h.0 h.1 in
    (claimed.proper, claimed.taken)

pub returns-in_ok-at-in-Some-signal-clause-on : goal.returns-in_ok-at-in-Some-signal-clause-on
returns-in_ok-at-in-Some-signal-clause-on c =
    claim_on c.args.m.now c.args.lines.now c.next.new.self _ c.in-Some.name.now c.in_ok-line.ensures.ok c.in-Some.ensures.value c.in-Some-signal.signal
    ((c.in-Some-signal.ensures c.in-Some-signal.signal).0 refl)
    ∙ (rw c.model.ensures.value at c.in_ok-at-in-Some-signal.ensures.on)

pub returns-in-None-signal-clause-fault : goal.returns-in-None-signal-clause-fault
returns-in-None-signal-clause-fault c =
    rw (c.at.ensures, c.number-number.ensures) (no_signal c.args.m.now c.args.lines.now c.next.new.self _ c.in-Some.name.now c.in_ok-line.ensures.ok c.in-Some.ensures.value c.in-None-signal.ensures)

pub returns-in-Some-number_behind-clause-on : goal.returns-in-Some-number_behind-clause-on
returns-in-Some-number_behind-clause-on c =
    goes_on c.args.m.now spec.for_claim _ _ _ c.in_ok-line.ensures.ok spec.for_stem
    (occurrence_on c.args.m.now c.in_ok-line.line.now c.in-None.ensures.value c.in-Some-number_behind.ensures.is)

pub returns-in-None-number_behind-clause-fault : goal.returns-in-None-number_behind-clause-fault
returns-in-None-number_behind-clause-fault c =
    rw (c.at-in-None-number_behind.ensures, c.number-number.ensures) (is_wrong c.args.m.now spec.for_claim _ _ _ c.in_ok-line.ensures.ok kind.Line
    (no_claim c.args.m.now c.in_ok-line.line.now c.in-None.ensures.value c.in-None-number_behind.ensures.none))

pub returns-in_ok-at-in-Some-signal-clause-sole : goal.returns-in_ok-at-in-Some-signal-clause-sole
returns-in_ok-at-in-Some-signal-clause-sole c =
    sole_mutant c.args.m.now c.in-Some.name.now c.in-Some-signal.signal c.in_ok-at-in-Some-signal.at ((c.in-Some-signal.ensures c.in-Some-signal.signal).0 refl)
    (λ q h. (c.in-Some-signal.ensures q).1 h) (subst (λ (n : Model). IsSole n c.in_ok-at-in-Some-signal.at) c.model.ensures.value c.in_ok-at-in-Some-signal.ensures.sole)

pub returns-in-Some-number_behind-clause-sole : goal.returns-in-Some-number_behind-clause-sole
returns-in-Some-number_behind-clause-sole c = sole_occurrence c.args.m.now c.in-Some-number_behind.n c.in-Some-number_behind.ensures.some.0
