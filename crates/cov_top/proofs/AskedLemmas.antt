-- Lemmas on questions about signals that a model does not have.
use Rattle.std.proofs.Common.{◌≡◌, ℕ, Bool, List, Option, Some, None, inl, inr, sym, subst}
use Rattle.cov_io.specs.Outside.{Table}
use Rattle.cov_space.specs.declared.fault.NodesFull.{NodesFull}
use Rattle.cov_space.specs.Meters.{MeterOf}
use Rattle.cov_jobs.specs.declared.fault.AskFault.{AskFault}
use Rattle.cov_jobs.specs.Faults.{IsAsked}
use Rattle.cov_jobs.proofs.Questions.{asks_alone, one_fault, unreported}
use Rattle.cov_model.specs.declared.model.Model as models
use Rattle.cov_words.specs.declared.job.Job.{Job}
use Rattle.cov_top.specs.Reading.{IsAccepted}
use Rattle.cov_top.specs.Nodes.{IsAmpleFile, IsJobShort}
use Rattle.cov_top.specs.Run.{IsAskedFile, IsEvidenceFile, IsReportWith, IsInputFault, IsJobReport, IsMissing, IsTextAsked, IsUnknownFile}
use Rattle.cov_top.specs.declared.status.InputFault.{InputFault}
use Rattle.cov_top.proofs.RunLemmas.{accepted-fault}

same_bytes : (o : Option (List ℕ)) (a b : List ℕ) → o ≡ Some a → o ≡ Some b → a ≡ b
same_bytes o a b e f = cc

-- where the job asks of the model what it has, its question is not refused
pub ample-unasked : (told : Option Table) (j : Option Job) (q : AskFault) → IsAmpleFile told j → IsAskedFile told j q → ⊥
ample-unasked told None q a c = a
ample-unasked None (Some j) q a c = a
ample-unasked (Some files) (Some j) q a c =
    let text : IsTextAsked j a.0 q = subst (λ b. IsTextAsked j b q) (same_bytes _ c.0 a.0 c.1.0 a.1) c.2 in
    let same : a.4.model ≡ text.model = text.only a.4.program a.4.model a.4.accepted in
    a.4.unasked q (subst (λ m. IsAsked m j q) (sym same) text.asked)

-- nothing is asked of a file that is not there
pub missing-asked : (told : Option Table) (j : Option Job) (q : AskFault) → IsMissing told j → IsAskedFile told j q → ⊥
missing-asked told None q h c = h
missing-asked None (Some j) q h c = h
missing-asked (Some files) (Some j) q (inl h) c = let is = c.1.0 in cc
missing-asked (Some files) (Some j) q (inr h) c = let alone = asks_alone c.2.model j q c.2.asked in let named = h.1 in cc

pub unknown-job : (told : Option Table) (j : Option Job) (q : AskFault) → IsUnknownFile told j q → j ≡ None → ⊥
unknown-job told None q u e = u
unknown-job told (Some j) q u e = cc

pub unknown-there : (told : Option Table) (j : Option Job) (q : AskFault) → IsUnknownFile told j q → IsMissing told j → ⊥
unknown-there told None q u h = u
unknown-there None (Some j) q u h = u
unknown-there (Some files) (Some j) q u (inl h) = let is = u.1 in cc
unknown-there (Some files) (Some j) q u (inr h) = let alone = asks_alone u.3 j q u.5 in let named = h.1 in cc

pub unknown-fault : (told : Option Table) (j : Option Job) (q : AskFault) (f : InputFault) → IsUnknownFile told j q → IsInputFault told j f → ⊥
unknown-fault told None q f u c = u
unknown-fault None (Some j) q f u c = u
unknown-fault (Some files) (Some j) q f u c =
    accepted-fault (Some files) (Some j) f (u.0, u.1, None, asks_alone u.3 j q u.5, record { program = u.2; model = u.3; accepted = u.4; spelled = tt }) c

pub unknown-short : (told : Option Table) (j : Option Job) (q : AskFault) (old new : MeterOf) (full : NodesFull) → IsUnknownFile told j q → IsJobShort told j old new full → ⊥
unknown-short told None q old new full u c = u
unknown-short None (Some j) q old new full u c = u
unknown-short (Some files) (Some j) q old new full u c =
    let accepted = subst (λ b. IsAccepted b u.2 u.3) (same_bytes _ u.0 c.bytes u.1 c.file.0) u.4 in
    let same : u.3 ≡ c.text.model = c.text.only u.2 u.3 accepted in
    c.text.unasked q (subst (λ m. IsAsked m j q) same u.5)

-- what is wrong with the question is told
pub one-question : (told : Option Table) (j : Option Job) (p q : AskFault) → IsUnknownFile told j p → IsAskedFile told j q → q ≡ p
one-question told None p q u c = absurd u
one-question None (Some j) p q u c = absurd u
one-question (Some files) (Some j) p q u c =
    let accepted = subst (λ b. IsAccepted b u.2 u.3) (same_bytes _ u.0 c.0 u.1 c.1.0) u.4 in
    let same : u.3 ≡ c.2.model = c.2.only u.2 u.3 accepted in
    one_fault c.2.model j q p c.2.asked (subst (λ m. IsAsked m j p) same u.5)

with-report : (told : Option Table) (m : models.Model) (j : Job) (q : AskFault) (passes : Bool) (text : List ℕ) (evidence : Option (List ℕ)) → IsEvidenceFile told j evidence
    → IsAsked m j q → IsReportWith j evidence m passes text → ⊥
with-report told m j q passes text None file asked r = unreported m j q passes text asked r
with-report told m j q passes text (Some bytes) file asked r = let alone = asks_alone m j q asked in let named = file.1 in cc

-- where the model lacks a signal there is no report
pub unknown-report : (told : Option Table) (j : Option Job) (q : AskFault) (passes : Bool) (text : List ℕ) → IsUnknownFile told j q → IsJobReport told j passes text → ⊥
unknown-report told None q passes text u r = u
unknown-report None (Some j) q passes text u r = u
unknown-report (Some files) (Some j) q passes text u r =
    let accepted = subst (λ b. IsAccepted b u.2 u.3) (same_bytes _ u.0 r.bytes u.1 r.file.0) u.4 in
    let same : u.3 ≡ r.report.model = r.report.only u.2 u.3 accepted in
    with-report (Some files) r.report.model j q passes text r.evidence r.evidence_file (subst (λ m. IsAsked m j q) same u.5) r.report.is
