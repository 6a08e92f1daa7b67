use Rattle.std.proofs.Common.{rules, subst, ◌∙◌}
use Rattle.cov_model.specs.declared.model.Model.{Model}
use Rattle.cov_claims.specs.declared.evidence.Evidence.{Evidence}
use Rattle.cov_evid.specs.Cursors.{IsRefusal, IsShortLasso, IsTaken}
use Rattle.cov_evid.specs.Spelling.{lasso_lines}
use Rattle.cov_evid.specs.FirstFault as spec
use Rattle.cov_evid.specs.declared.fault.EvidRefused.TheVariants.{Fault}
use Rattle.cov_evid.proofs.Sole.{sole_evidence}
use Rattle.cov_evid.proofs.Walking.{err_exit, is_trailing, refuted}
use Rattle.cov_evid.proofs.Whole.{begun, is_read, too_long, whole_text}
use Rattle.cov_evid.proofs.read.read_lines.Goals as goal

pub returns-then-text-gt-LONGEST_TEXT-clause-fault : goal.returns-then-text-gt-LONGEST_TEXT-clause-fault
returns-then-text-gt-LONGEST_TEXT-clause-fault c = rw c.at.ensures (too_long c.args.m.now c.args.text.now c.if-text-gt-LONGEST_TEXT.true)

pub returns-in_err-read_header-clause-fault : goal.returns-in_err-read_header-clause-fault
returns-in_err-read_header-clause-fault c =
    let b = begun c.args.m.now c.args.text.now c.new-lines.result c.if-text-gt-LONGEST_TEXT.false c.new-lines.ensures in
    err_exit c.from_residual.result (Fault c.in_err-read_header.field-0.0) (IsRefusal (spec.evid_fault c.args.m.now c.args.text.now)) (search rules) (b ∙ c.in_err-read_header.ensures.fault c.args.m.now)

pub returns-in_err-spec-clause-fault : goal.returns-in_err-spec-clause-fault
returns-in_err-spec-clause-fault c =
    let b = begun c.args.m.now c.args.text.now c.new-lines.result c.if-text-gt-LONGEST_TEXT.false c.new-lines.ensures in
    let h = c.in_ok-read_header.ensures.on c.args.m.now in
    err_exit c.from_residual-in_err-spec.result (Fault c.in_err-spec.field-0.0) (IsRefusal (spec.evid_fault c.args.m.now c.args.text.now)) (search rules) (b ∙ h ∙ c.in_err-spec.ensures.fault c.args.m.now)

pub returns-in_err-claim-clause-fault : goal.returns-in_err-claim-clause-fault
returns-in_err-claim-clause-fault c =
    let b = begun c.args.m.now c.args.text.now c.new-lines.result c.if-text-gt-LONGEST_TEXT.false c.new-lines.ensures in
    let h = c.in_ok-read_header.ensures.on c.args.m.now in
    let s = c.in_ok-spec.ensures.on c.args.m.now in
    err_exit c.from_residual-in_err-claim.result c.in_err-claim.field-0.0 (IsRefusal (spec.evid_fault c.args.m.now c.args.text.now)) (search rules) (rw (b ∙ h ∙ s) c.in_err-claim.ensures.fault)

pub read_lasso-requires : goal.read_lasso-requires
read_lasso-requires c = rw c.model.ensures.value c.model.ensures.formed

pub returns-in_err-lasso-clause-fault : goal.returns-in_err-lasso-clause-fault
returns-in_err-lasso-clause-fault c =
    let b = begun c.args.m.now c.args.text.now c.new-lines.result c.if-text-gt-LONGEST_TEXT.false c.new-lines.ensures in
    let h = c.in_ok-read_header.ensures.on c.args.m.now in
    let s = c.in_ok-spec.ensures.on c.args.m.now in
    err_exit c.from_residual-in_err-lasso.result c.in_err-lasso.field-0.0 (IsRefusal (spec.evid_fault c.args.m.now c.args.text.now)) (search rules)
    (rw (b ∙ h ∙ s ∙ c.in_ok-claim.ensures.on) (rw c.model.ensures.value at c.in_err-lasso.ensures.fault))

pub returns-then-not-is_empty-clause-fault : goal.returns-then-not-is_empty-clause-fault
returns-then-not-is_empty-clause-fault c =
    let b = begun c.args.m.now c.args.text.now c.new-lines.result c.if-text-gt-LONGEST_TEXT.false c.new-lines.ensures in
    let h = c.in_ok-read_header.ensures.on c.args.m.now in
    let s = c.in_ok-spec.ensures.on c.args.m.now in
    let l = rw c.model.ensures.value at c.in_ok-lasso.ensures.on in
    let t = is_trailing c.args.m.now c.read_lasso.new.lines (λ e. refuted _ c.if-not-is_empty.true (c.is_empty.ensures.1 e)) in
    rw (c.at-then-not-is_empty.ensures, c.number.ensures) (b ∙ h ∙ s ∙ c.in_ok-claim.ensures.on ∙ l ∙ t)

pub returns-clause-ok : goal.returns-clause-ok
returns-clause-ok c =
    let e : Evidence = record { claim = c.in_ok-claim.claim; spec = c.in_ok-spec.spec; lasso = c.in_ok-lasso.lasso } in
    let l = subst (λ (n : Model). IsShortLasso n c.in_ok-lasso.lasso × IsTaken c.read_claim.new.lines (lasso_lines n c.in_ok-lasso.lasso) c.read_lasso.new.lines) c.model.ensures.value c.in_ok-lasso.ensures.ok in
    let text = whole_text c.args.m.now c.args.text.now c.new-lines.result c.read_header.new.lines c.read_spec.new.lines c.read_claim.new.lines c.read_lasso.new.lines e
    c.new-lines.ensures c.in_ok-read_header.ensures.ok c.in_ok-spec.ensures.ok.1 c.in_ok-claim.ensures.ok.1 l.1 (c.is_empty.ensures.0 c.if-not-is_empty.false) in
    let r = is_read c.args.m.now c.args.text.now e c.in_ok-spec.ensures.ok.0 c.in_ok-claim.ensures.ok.0 l.0 c.if-text-gt-LONGEST_TEXT.false text in
    (r.proper, r.limits, text)

pub returns-clause-sole : goal.returns-clause-sole
returns-clause-sole c =
    let e : Evidence = record { claim = c.in_ok-claim.claim; spec = c.in_ok-spec.spec; lasso = c.in_ok-lasso.lasso } in
    let l = subst (λ (n : Model). IsShortLasso n c.in_ok-lasso.lasso × IsTaken c.read_claim.new.lines (lasso_lines n c.in_ok-lasso.lasso) c.read_lasso.new.lines) c.model.ensures.value c.in_ok-lasso.ensures.ok in
    let text = whole_text c.args.m.now c.args.text.now c.new-lines.result c.read_header.new.lines c.read_spec.new.lines c.read_claim.new.lines c.read_lasso.new.lines e
    c.new-lines.ensures c.in_ok-read_header.ensures.ok c.in_ok-spec.ensures.ok.1 c.in_ok-claim.ensures.ok.1 l.1 (c.is_empty.ensures.0 c.if-not-is_empty.false) in
    let r = is_read c.args.m.now c.args.text.now e c.in_ok-spec.ensures.ok.0 c.in_ok-claim.ensures.ok.0 l.0 c.if-text-gt-LONGEST_TEXT.false text in
    sole_evidence c.args.m.now e c.model.ensures.formed r.proper c.in_ok-claim.ensures.sole l.0
