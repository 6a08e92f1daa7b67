-- Lemmas on replays.
use Rattle.std.proofs.Common.{◌≡◌, ℕ, ◌+◌, ◌<◌, ◌≤◌, Bool, true, false, List, length, replicate, Option, Some, None, Result, Ok, Err, IfErr, refl, sym, subst, ◌∙◌, arith}
use Rattle.std.specs.Prelude.{IfOk}
use Rattle.std.proofs.lemmas.Bool.{false≢true}
use Rattle.std.proofs.lemmas.List.{length-replicate}
use Rattle.cov_io.specs.Outside.{Table, IsFile}
use Rattle.cov_claims.specs.Valid.{IsValid}
use Rattle.cov_model.specs.declared.model.Model as models
use Rattle.cov_evid.proofs.Whole.{too_long}
use Rattle.cov_evid.specs.Faults.{fault_at}
use Rattle.cov_evid.specs.declared.fault.EvidFault.{EvidFault}
use Rattle.cov_evid.specs.declared.fault.EvidFaultKind.TheVariants as kind
use Rattle.cov_evid.specs.Spelling.{longest_text}
use Rattle.cov_jobs.proofs.Replaying.{some_item}
use Rattle.cov_replay.proofs.Deciding.{proved}
use Rattle.cov_replay.proofs.Validity.{accepts_valid}
use Rattle.cov_space.specs.declared.fault.NodesFull.{NodesFull}
use Rattle.cov_space.specs.Meters.{MeterOf}
use Rattle.cov_words.specs.Words.{evidence_name, model_name}
use Rattle.cov_words.specs.declared.job.Job.{Job}
use Rattle.cov_words.specs.declared.job.Job.TheVariants.{Replay}
use Rattle.cov_top.specs.Inputs.{IsEvidenceInput, IsInputOf}
use Rattle.cov_top.specs.Nodes.{IsJobShort}
use Rattle.cov_top.specs.Run.{IsEvidenceFile, IsJobReport, IsReport, IsTextReport, ProvesClaim, ProvesNothing}
use Rattle.cov_jobs.specs.Jobs.{IsReportOn}
use Rattle.cov_jobs.specs.Replays.{IsReplayReport}
use Rattle.cov_jobs.specs.declared.report.Report.{Report}
use Rattle.cov_top.proofs.ReadLemmas.{replay-stop, text-report}
use Rattle.cov_top.specs.Accepting.{IsReadAs}
use Rattle.cov_top.specs.Stops.{IsReplayStop, IsTextStop}
use Rattle.cov_top.specs.declared.refusal.NoReport.{NoReport}
use Rattle.std.proofs.lemmas.Result.{IfOk-weaker}
use Rattle.cov_top.specs.declared.refusal.NoReport.TheVariants as no_report
use Rattle.cov_top.specs.Transfer.{IsLonger}
use Rattle.cov_top.specs.declared.input.Input.{Input}
use Rattle.cov_top.specs.declared.input.Input.TheVariants.{Whole, TooLong}

-- ---- what is read of evidence

-- the bytes of the evidence that is read
pub record IsRead (told : Option Table) (j : Job) (input : Input) : Type 0 where
  pub bytes : Option (List ℕ)
  pub file : IsEvidenceFile told j bytes
  pub given : IsEvidenceInput (Some input) bytes

-- there is a list that is longer
longer : (n : ℕ) → (bytes : List ℕ) × (n < length bytes)
longer n =
    let zeros : List ℕ = replicate (n + 1) 0 in
    let whole : length zeros ≡ n + 1 = length-replicate (n + 1) 0 in
    (zeros, omega (arith, whole))

-- a file that is read is that of the evidence
pub evidence-read : (told : Option Table) (j : Job) (name : List ℕ) (input : Input) → evidence_name j ≡ Some name → IsInputOf told name 67108864 input → IsRead told j input
evidence-read told j name (Whole text) is h = record { bytes = Some text; file = (name, is, h.0); given = refl }
evidence-read None j name TooLong is h = let more = longer longest_text in record { bytes = Some more.0; file = (name, is, tt); given = more.1 }
evidence-read (Some files) j name TooLong is h = record { bytes = Some h.0; file = (name, is, (h.1, refl)); given = h.2 }

-- where no evidence is read, there are no bytes of it
pub alone-report : (j : Job) (text : List ℕ) (m : models.Model) → IsReadAs text m → (read : Option Input) → read ≡ None → (bytes : Option (List ℕ)) → IsEvidenceInput read bytes
    → (passes : Bool) (shown : List ℕ) → IsReportOn j m passes shown → IsTextReport j text bytes passes shown
alone-report j text m r read is None e passes shown report = text-report j text m r None passes shown report
alone-report j text m r read is (Some bytes) e passes shown report = absurd (subst (λ i. IsEvidenceInput i (Some bytes)) is e)

-- the report of a replay, where evidence is read
pub replay-report : (j : Job) (text : List ℕ) (m : models.Model) → IsReadAs text m → (read : Option Input) (input : Input) → read ≡ Some input → (r : Result Report NoReport)
    → ((b : List ℕ) → IsEvidenceInput (Some input) (Some b) → IfOk r (λ x. IsReplayReport m b x.passes x.text))
    → (bytes : Option (List ℕ)) → IsEvidenceInput read bytes → IfOk r (λ x. IsTextReport j text bytes x.passes x.text)
replay-report j text m r read input is answer h None e = absurd (subst (λ i. IsEvidenceInput i None) is e)
replay-report j text m r read input is answer h (Some bytes) e =
    IfOk-weaker answer _ _ (λ x k. text-report j text m r (Some bytes) x.passes x.text k) (h bytes (subst (λ i. IsEvidenceInput i (Some bytes)) is e))

err-weaker : {X : Type 0} (r : Result X NoReport) (P Q : NoReport → Type 0) → ((e : NoReport) → P e → Q e) → IfErr r P → IfErr r Q
err-weaker (Ok x) P Q f h = tt
err-weaker (Err e) P Q f h = f e h

-- why a replay has no report
pub replay-stopped : (j : Job) (text : List ℕ) (m : models.Model) → IsReadAs text m → (read : Option Input) (input : Input) → read ≡ Some input → (r : Result Report NoReport) (old : MeterOf)
    → ((b : List ℕ) → IsEvidenceInput (Some input) (Some b) → IfErr r (IsReplayStop m b))
    → (bytes : Option (List ℕ)) → IsEvidenceInput read bytes → IfErr r (IsTextStop j text bytes old old)
replay-stopped j text m r read input is answer old h None e = absurd (subst (λ i. IsEvidenceInput i None) is e)
replay-stopped j text m r read input is answer old h (Some bytes) e =
    err-weaker answer _ _ (λ reason k. replay-stop j text m r bytes old old reason refl k) (h bytes (subst (λ i. IsEvidenceInput i (Some bytes)) is e))

-- a text that is too long spells no evidence
pub too-long-stop : (m : models.Model) (input : Input) (bytes : List ℕ) (f : EvidFault) → input ≡ TooLong → f ≡ fault_at kind.TooLong 1 → IsEvidenceInput (Some input) (Some bytes)
    → IsReplayStop m bytes (no_report.Evidence f)
too-long-stop m input bytes f is fault h =
    let long : longest_text < length bytes = subst (λ i. IsEvidenceInput (Some i) (Some bytes)) is h in
    subst (λ g. IsReplayStop m bytes (no_report.Evidence g)) (sym fault) (
      too_long m bytes long,
      λ e t.
          let within : length bytes ≤ longest_text = subst (λ (z : List ℕ). length z ≤ longest_text) (sym t.is) t.within.bytes in
          absurd (omega arith),
    )

-- ---- what a replay proves

named_file : (told : Option Table) (a b : List ℕ) (text : List ℕ) → Some a ≡ Some b → IsFile told b (Some text) → IsFile told a (Some text)
named_file told a b text is file = let back : b ≡ a = cc in subst (λ (n : List ℕ). IsFile told n (Some text)) back file

module _ (told : Option Table) (model_file evidence_file : List ℕ) (bytes : List ℕ) (file : IsFile told model_file (Some bytes)) where
  claim : (text : List ℕ) (shown : List ℕ) → IsFile told evidence_file (Some text) → IsTextReport (Replay model_file evidence_file) bytes (Some text) true shown
      → ProvesClaim told model_file evidence_file
  claim text shown there r =
      let e = r.is.evidence in
      let valid : IsValid r.model e = r.is.judged.valid.0 refl in
      record {
        bytes = bytes;
        file = file;
        program = r.program;
        model = r.model;
        accepted = r.accepted;
        only = r.only;
        text = text;
        text_file = there;
        evidence = e;
        read = r.is.read;
        valid = valid;
        proved =
            proved r.model e r.is.judged.verdict (some_item e.lasso.turn r.is.read.proper.turns) r.is.judged.judged
            ((accepts_valid r.model e r.is.judged.verdict r.is.judged.judged).1 valid);
      }

  nothing : (text : List ℕ) (shown : List ℕ) → IsFile told evidence_file (Some text) → IsTextReport (Replay model_file evidence_file) bytes (Some text) false shown
      → ProvesNothing told model_file evidence_file
  nothing text shown there r = record {
    bytes = bytes;
    file = file;
    program = r.program;
    model = r.model;
    accepted = r.accepted;
    only = r.only;
    text = text;
    text_file = there;
    evidence = r.is.evidence;
    read = r.is.read;
    invalid = λ valid. false≢true (r.is.judged.valid.1 valid);
  }

  claim_by : (evidence : Option (List ℕ)) (shown : List ℕ) → IsEvidenceFile told (Replay model_file evidence_file) evidence
      → IsTextReport (Replay model_file evidence_file) bytes evidence true shown → ProvesClaim told model_file evidence_file
  claim_by None shown there r = absurd r.is
  claim_by (Some text) shown there r = claim text shown (named_file told evidence_file there.0 text there.1 there.2) r

  nothing_by : (evidence : Option (List ℕ)) (shown : List ℕ) → IsEvidenceFile told (Replay model_file evidence_file) evidence
      → IsTextReport (Replay model_file evidence_file) bytes evidence false shown → ProvesNothing told model_file evidence_file
  nothing_by None shown there r = absurd r.is
  nothing_by (Some text) shown there r = nothing text shown (named_file told evidence_file there.0 text there.1 there.2) r

report_of : (told : Option Table) (j : Option Job) (k : Job) (passes held : Bool) (text : List ℕ) → j ≡ Some k → passes ≡ held → IsJobReport told j passes text → IsReport told k held text
report_of told j k passes held text is pass r =
    subst (λ (b : Bool). IsReport told k b text) pass (subst (λ (o : Option Job). IsJobReport told o passes text) is r)

-- the report of a replay that passes
pub proves_claim : (told : Option Table) (j : Option Job) (model evidence : List ℕ) (passes : Bool) (text : List ℕ) → j ≡ Some (Replay model evidence) → IsJobReport told j passes text
    → passes ≡ true → ProvesClaim told model evidence
proves_claim told j model evidence passes text is h pass =
    let r = report_of told j (Replay model evidence) passes true text is pass h in
    claim_by told model evidence r.bytes r.file r.evidence text r.evidence_file r.report

-- the report of a replay that fails
pub proves_nothing : (told : Option Table) (j : Option Job) (model evidence : List ℕ) (passes : Bool) (text : List ℕ) → j ≡ Some (Replay model evidence) → IsJobReport told j passes text
    → passes ≡ false → ProvesNothing told model evidence
proves_nothing told j model evidence passes text is h pass =
    let r = report_of told j (Replay model evidence) passes false text is pass h in
    nothing_by told model evidence r.bytes r.file r.evidence text r.evidence_file r.report

-- a replay is never out of nodes
pub replays_without_nodes : (told : Option Table) (j : Option Job) (old new : MeterOf) (full : NodesFull) (model evidence : List ℕ) → j ≡ Some (Replay model evidence)
    → IsJobShort told j old new full → ⊥
replays_without_nodes told j old new full model evidence is short =
    let s : IsJobShort told (Some (Replay model evidence)) old new full = subst (λ (o : Option Job). IsJobShort told o old new full) is short in
    let alone = s.text.diagrams in cc
