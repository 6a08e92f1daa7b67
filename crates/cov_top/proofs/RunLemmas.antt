-- Lemmas on the causes of a run's answers.
use Rattle.std.proofs.Common.{◌≡◌, ℕ, Bool, ◌<◌, List, [], Option, Some, None, length, Err, refl, sym, inl, inr, subst}
use Rattle.std.proofs.lemmas.Bool.{lt-ltb}
use Rattle.cov_io.specs.Outside.{Table, IsFile}
use Rattle.cov_syntax.specs.Tokens as spec
use Rattle.cov_top.specs.ErrorLine.{named}
use Rattle.cov_top.specs.Transfer.{IsLonger}
use Rattle.cov_top.specs.Reading.{IsTextFault}
use Rattle.cov_space.specs.Meters.{MeterOf}
use Rattle.cov_model.specs.declared.model.Model as models
use Rattle.cov_jobs.specs.declared.fault.AskFault.{AskFault}
use Rattle.cov_jobs.specs.declared.fault.AskFault.TheVariants.{UnknownSignal}
use Rattle.cov_jobs.specs.Faults.{IsAsked}
use Rattle.cov_jobs.specs.Replays.{IsEvidenceText}
use Rattle.cov_top.specs.Refusal.{IsAnswerable, IsCause, IsRefusal, IsTold, IsUnread, file_too_long}
use Rattle.cov_words.specs.Words.{model_name}
use Rattle.cov_top.specs.Run.{IsAcceptedFile, IsEvidenceFile, IsFaultOf, HasInput, IsInputFault, IsJobReport, IsPlace, IsRefusedFile, HasModel, IsTextReport}
use Rattle.cov_words.specs.declared.job.Job.{Job}
use Rattle.cov_words.specs.declared.job.Job.TheVariants.{Init, Reach, Check, Vacuity, Cover, Replay}
use Rattle.cov_top.specs.declared.refusal.Refusal.{Refusal}
use Rattle.cov_space.specs.declared.fault.NodesFull.{NodesFull}
use Rattle.cov_top.specs.Nodes.{IsJobShort, KeepsMeter}
use Rattle.cov_top.specs.Stops.{IsTextStop}
use Rattle.cov_top.specs.declared.refusal.NoReport.{NoReport}
use Rattle.cov_top.specs.declared.refusal.NoReport.TheVariants as no_report
use Rattle.cov_syntax.specs.declared.fault.ModelFault.{ModelFault}
use Rattle.cov_top.specs.declared.status.Status.TheVariants.{Input, Nodes, Memory, Asked}
use Rattle.cov_top.specs.declared.status.Status.{Status}
use Rattle.cov_top.specs.declared.status.InputFault.{InputFault}
use Rattle.cov_top.specs.declared.status.InputFault.TheVariants.{Model, Evidence}

-- the refusal of a file with more bytes than the limit
abbrev too_long : Refusal
too_long = record { status = Input (Model file_too_long); position = record { line = 1; column = 1 }; word = None; signal = None }

tokens-long : (text : List ℕ) → 1048576 < length text → spec.tokens text ≡ Err file_too_long
unfolding spec.tokens
tokens-long text h = rw (lt-ltb 1048576 (length text) h) refl

fault-long : (text : List ℕ) → 1048576 < length text → IsTextFault text file_too_long
fault-long text h = let e = tokens-long text h in record { refused = λ p m a. let f = a.reads.cut in absurd cc; cause = inl e }

input-longer : (told : Option Table) (j : Job) (evidence : Option (List ℕ)) → IsEvidenceFile told j evidence → IsLonger told (model_name j) 1048576
    → IsInputFault told (Some j) (Model file_too_long)
input-longer None j evidence there h = tt
input-longer (Some files) j evidence there h = (h.0, h.1, evidence, there, fault-long h.0 h.2)

place-longer : (told : Option Table) (j : Job) → IsLonger told (model_name j) 1048576 → IsPlace told (Some j) too_long.status 1 1 None []
place-longer None j h = ([], tt, refl, refl, refl)
place-longer (Some files) j h = (h.0, (h.1, refl), refl, refl, refl)

-- the refusal of a file with more bytes than the limit has its cause and its place
pub refusal-longer : (told : Option Table) (before now : ℕ) (j : Job) (old new : MeterOf) (name : List ℕ) (r : Refusal) → r ≡ too_long → IsLonger told name 1048576 → name ≡ model_name j
    → new ≡ old → (evidence : Option (List ℕ)) → IsEvidenceFile told j evidence → IsRefusal told before now (Some j) old new r
refusal-longer told before now j old new name r is h e kept evidence there =
    rw is (record { cause = input-longer told j evidence there (rw e at h); meter = kept; place = place-longer told j (rw e at h) })

-- a refusal by its status
by-status : (told : Option Table) (before now : ℕ) (j : Option Job) (old new : MeterOf) (r : Refusal) (s : Status) → r.status ≡ s
    → IsCause told before now j old new s → KeepsMeter s old new → IsPlace told j s r.position.line r.position.column r.word (named r.signal) → IsRefusal told before now j old new r
by-status told before now j old new r s e cause meter place = record {
  cause = subst (λ t. IsCause told before now j old new t) (sym e) cause;
  meter = subst (λ t. KeepsMeter t old new) (sym e) meter;
  place = subst (λ t. IsPlace told j t r.position.line r.position.column r.word (named r.signal)) (sym e) place;
}

input-fault : (told : Option Table) (j : Job) (bytes : List ℕ) (evidence : Option (List ℕ)) (f : InputFault) → IsFile told (model_name j) (Some bytes)
    → IsEvidenceFile told j evidence → IsFaultOf bytes evidence f → IsInputFault told (Some j) f
input-fault None j bytes evidence f file there h = tt
input-fault (Some files) j bytes evidence f file there h = (bytes, file.0, evidence, there, h)

-- the refusal of a text that has no report, which is the whole file of the job
pub refusal-unread : (told : Option Table) (before now : ℕ) (j : Job) (old new : MeterOf) (bytes : List ℕ) (evidence : Option (List ℕ)) (reason : NoReport) (r : Refusal)
    → IsFile told (model_name j) (Some bytes) → IsEvidenceFile told j evidence → IsUnread j bytes reason r → IsTextStop j bytes evidence old new reason
    → IsRefusal told before now (Some j) old new r
refusal-unread told before now j old new bytes evidence (no_report.Fault f) r file there is stop =
    by-status told before now (Some j) old new r (Input (Model f)) is.0 (input-fault told j bytes evidence (Model f) file there stop.0) stop.1 (bytes, file, is.1, is.2, is.3)
refusal-unread told before now j old new bytes evidence (no_report.Evidence f) r file there is stop =
    by-status told before now (Some j) old new r (Input (Evidence f)) is (input-fault told j bytes evidence (Evidence f) file there stop.0) stop.1 tt
refusal-unread told before now j old new bytes evidence (no_report.Asked a) r file there is stop =
    elim is [
      | inl asked ↦ by-status told before now (Some j) old new r (Asked a) asked.0 (bytes, file, stop.0) stop.1 asked.1
      | inr memory ↦ by-status told before now (Some j) old new r Memory memory tt stop.1 tt
    ]
refusal-unread told before now j old new bytes evidence (no_report.Nodes full) r file there is stop =
    by-status told before now (Some j) old new r (Nodes full) is (record { bytes = bytes; file = file; text = stop }) tt tt
refusal-unread told before now j old new bytes evidence no_report.Memory r file there is stop = by-status told before now (Some j) old new r Memory is tt stop tt

same_bytes : (o : Option (List ℕ)) (a b : List ℕ) → o ≡ Some a → o ≡ Some b → a ≡ b
same_bytes o a b e f = cc

reported : (j : Job) (bytes : List ℕ) (evidence : Option (List ℕ)) (passes : Bool) (text : List ℕ) → IsTextReport j bytes evidence passes text → HasModel bytes
reported j bytes evidence passes text r = record { program = r.program; model = r.model; accepted = r.accepted }

-- a file that is accepted as no model has no report
pub refused-report : (told : Option Table) (j : Option Job) (passes : Bool) (text : List ℕ) → IsRefusedFile told j → IsJobReport told j passes text → ⊥
refused-report told None passes text h r = h
refused-report None (Some j) passes text h r = h
refused-report (Some files) (Some j) passes text h r =
    h.2 (subst HasModel (same_bytes _ r.bytes h.0 r.file.0 h.1) (reported j r.bytes r.evidence passes text r.report))

pub one-evidence : (files : Table) (j : Job) (a b : Option (List ℕ)) → IsEvidenceFile (Some files) j a → IsEvidenceFile (Some files) j b → a ≡ b
one-evidence files j None None x y = refl
one-evidence files j None (Some b) x y = let named = y.1 in cc
one-evidence files j (Some a) None x y = let named = x.1 in cc
one-evidence files j (Some a) (Some b) x y = let first = x.1 in let second = y.1 in let is = x.2.0 in let also = y.2.0 in cc

-- what is accepted, with evidence that speaks of the model, has no fault
input-sound : (bytes : List ℕ) (evidence : Option (List ℕ)) (f : InputFault) → HasInput bytes evidence → IsFaultOf bytes evidence f → ⊥
input-sound bytes evidence (Model f) h c = c.refused h.program h.model h.accepted
input-sound bytes None (Evidence f) h c = let is = c.is in absurd cc
input-sound bytes (Some text) (Evidence f) h c =
    let same : h.model ≡ c.model = c.only h.program h.model h.accepted in
    let own : text ≡ c.text = let is = c.is in cc in
    let read : IsEvidenceText c.model c.text h.spelled.0 =
    subst (λ (b : List ℕ). IsEvidenceText c.model b h.spelled.0) own (subst (λ (m : models.Model). IsEvidenceText m text h.spelled.0) same h.spelled.1) in
    c.unspelled h.spelled.0 read

-- files that are accepted have no fault
pub accepted-fault : (told : Option Table) (j : Option Job) (f : InputFault) → IsAcceptedFile told j → IsInputFault told j f → ⊥
accepted-fault told None f h r = h
accepted-fault None (Some j) f h r = h
accepted-fault (Some files) (Some j) f h r =
    let own : h.0 ≡ r.0 = same_bytes _ h.0 r.0 h.1 r.1 in
    let also : h.2 ≡ r.2 = one-evidence files j h.2 r.2 h.3 r.3 in
    input-sound r.0 r.2 f (subst (λ (b : List ℕ). HasInput b r.2) own (subst (λ (e : Option (List ℕ)). HasInput h.0 e) also h.4)) r.4

pub accepted-refusal : (told : Option Table) (before now : ℕ) (j : Option Job) (old new : MeterOf) (r : Refusal) → IsAcceptedFile told j → IsRefusal told before now j old new r → (f : InputFault) → r.status ≡ Input f → ⊥
accepted-refusal told before now j old new r h is f e = accepted-fault told j f h (subst (λ s. IsCause told before now j old new s) e is.cause)

-- a refusal on nodes has its cause
pub short-refusal : (told : Option Table) (before now : ℕ) (j : Option Job) (old new : MeterOf) (r : Refusal) → IsRefusal told before now j old new r → (full : NodesFull) → r.status ≡ Nodes full
    → IsJobShort told j old new full
short-refusal told before now j old new r is full e = subst (λ s. IsCause told before now j old new s) e is.cause

told-question : (m : models.Model) (j : Job) (a : AskFault) → IsAsked m j a → IsTold j a
told-question m (Init name opts) a asked = asked
told-question m (Reach name opts) a asked = asked
told-question m (Check name opts) a asked = asked
told-question m (Vacuity name opts) a asked = asked
told-question m (Cover name signals opts) (UnknownSignal place) asked = (asked.from, asked.to)
told-question m (Replay name evidence) a asked = asked

-- the signal that a job asks for in vain is one of its signals
pub answerable : (j : Job) (bytes : List ℕ) (evidence : Option (List ℕ)) (old new : MeterOf) (reason : NoReport) → IsTextStop j bytes evidence old new reason → IsAnswerable j reason
answerable j bytes evidence old new (no_report.Fault f) stop = tt
answerable j bytes evidence old new (no_report.Evidence f) stop = tt
answerable j bytes evidence old new (no_report.Asked a) stop = told-question stop.0.model j a stop.0.asked
answerable j bytes evidence old new (no_report.Nodes full) stop = tt
answerable j bytes evidence old new no_report.Memory stop = tt
