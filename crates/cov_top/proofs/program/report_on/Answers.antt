use Rattle.std.proofs.Common.{List, ℕ, Some, refl, subst}
use Rattle.cov_io.specs.Outside.{IsFile}
use Rattle.cov_top.specs.Inputs.{IsInputOf}
use Rattle.cov_top.specs.Refusal.{IsUnread}
use Rattle.cov_top.specs.Run.{IsEvidenceFile}
use Rattle.cov_top.specs.Stops.{IsTextStop}
use Rattle.cov_top.proofs.RunLemmas.{refusal-longer, refusal-unread}
use Rattle.cov_top.proofs.program.report_on.Goals as goal

pub returns-in_default-clause-err : goal.returns-in_default-clause-err
returns-in_default-clause-err g c =
    let told = g.F.Files.told c.args.files.now in
    let read = c.in-Ok-evidence_input.ensures.ok in
    let there = subst (λ t. IsEvidenceFile t c.args.job.now read.0) c.in-Ok.ensures.told read.1 in
    let longer = subst (λ i. IsInputOf told c.model.result.now 1048576 i) c.in_default.is c.in-Ok.ensures.ok in
    refusal-longer told _ _ c.args.job.now _ _ c.model.result.now c.too_long.result c.too_long.ensures longer c.model.ensures refl read.0 there

pub returns-clause-err : goal.returns-clause-err
returns-clause-err g c =
    let told = g.F.Files.told c.args.files.now in
    let read = c.in-Ok-evidence_input.ensures.ok in
    let there = subst (λ t. IsEvidenceFile t c.args.job.now read.0) c.in-Ok.ensures.told read.1 in
    let whole = subst (λ i. IsInputOf told c.model.result.now 1048576 i) c.in-Whole.is c.in-Ok.ensures.ok in
    let file = subst (λ (name : List ℕ). IsFile told name (Some c.in-Whole.text)) c.model.ensures whole.0 in
    refusal-unread told _ _ c.args.job.now _ _ c.in-Whole.text read.0 c.in-Err-report_on_text.reason c.unread.result file there
    (subst (λ (t : List ℕ). IsUnread c.args.job.now t c.in-Err-report_on_text.reason c.unread.result) c.as_slice-in-Err-report_on_text.ensures c.unread.ensures)
    (subst (λ (t : List ℕ). IsTextStop c.args.job.now t read.0 c.args.meter.now c.report_on_text.new.meter c.in-Err-report_on_text.reason) c.as_slice.ensures
    (c.in-Err-report_on_text.ensures.err read.0 read.2))
