-- Lemmas on files that have a fault.
use Rattle.std.proofs.Common.{◌≡◌, ◌⊎◌, ℕ, Bool, List, Option, Some, None, inl, inr, refl, ap, subst}
use Rattle.cov_io.specs.Outside.{Table, Rose}
use Rattle.cov_evid.specs.FirstFault.{evid_fault}
use Rattle.cov_evid.specs.declared.fault.EvidFault.{EvidFault}
use Rattle.cov_jobs.proofs.Questions.{asks_alone}
use Rattle.cov_jobs.specs.Replays.{IsEvidenceText}
use Rattle.cov_jobs.specs.declared.fault.AskFault.{AskFault}
use Rattle.cov_model.specs.declared.model.Model as models
use Rattle.cov_space.specs.Meters.{MeterOf}
use Rattle.cov_space.specs.declared.fault.NodesFull.{NodesFull}
use Rattle.cov_syntax.specs.declared.fault.ModelFault.{ModelFault}
use Rattle.cov_syntax.specs.declared.program.Program.{Program}
use Rattle.cov_words.specs.Words.{evidence_name}
use Rattle.cov_words.specs.declared.job.Job.{Job}
use Rattle.cov_top.proofs.CompleteLemmas.{missing-fault}
use Rattle.cov_top.proofs.ReadLemmas.{one-text-fault}
use Rattle.cov_top.proofs.RunLemmas.{one-evidence}
use Rattle.cov_top.specs.Nodes.{IsJobShort}
use Rattle.cov_top.specs.Reading.{IsAccepted}
use Rattle.cov_top.specs.Refusal.{IsCause}
use Rattle.cov_top.specs.Run.{IsAskedFile, IsEvidenceFile, IsFaultOf, IsFaultyFile, IsInputFault, IsJobReport, IsMissing, IsReportWith, IsTextEvidenceFault, IsTextReport}
use Rattle.cov_top.specs.declared.status.InputFault.{InputFault}
use Rattle.cov_top.specs.declared.status.InputFault.TheVariants.{Model, Evidence}
use Rattle.cov_top.specs.declared.status.Status.{Status}
use Rattle.cov_top.specs.declared.status.Status.TheVariants.{Done, Fails, Words, Input, Read, Write, Nodes, Memory, Asked}

same_bytes : (o : Option (List ℕ)) (a b : List ℕ) → o ≡ Some a → o ≡ Some b → a ≡ b
same_bytes o a b e f = cc

-- ---- one fault alone

one-some : (text other : List ℕ) → Some text ≡ Some other → text ≡ other
one-some text other e = cc

some-fault : (f g : EvidFault) → Some f ≡ Some g → f ≡ g
some-fault f g e = cc

some-evidence : (evidence : Option (List ℕ)) (a b : List ℕ) → evidence ≡ Some a → evidence ≡ Some b → a ≡ b
some-evidence evidence a b x y = cc

one-evidence-fault : (bytes : List ℕ) (evidence : Option (List ℕ)) (f g : EvidFault) → IsTextEvidenceFault bytes evidence f → IsTextEvidenceFault bytes evidence g → f ≡ g
one-evidence-fault bytes evidence f g a b =
    let same : a.model ≡ b.model = b.only a.program a.model a.accepted in
    let text : a.text ≡ b.text = some-evidence evidence a.text b.text a.is b.is in
    let told : evid_fault b.model b.text ≡ Some f =
    subst (λ (t : List ℕ). evid_fault b.model t ≡ Some f) text (subst (λ (m : models.Model). evid_fault m a.text ≡ Some f) same a.fault) in
    let other = b.fault in
    cc

one-fault-of : (bytes : List ℕ) (evidence : Option (List ℕ)) (f g : InputFault) → IsFaultOf bytes evidence f → IsFaultOf bytes evidence g → f ≡ g
one-fault-of bytes evidence (Model f) (Model g) a b = ap Model (one-text-fault bytes f g a b)
one-fault-of bytes evidence (Model f) (Evidence g) a b = absurd (a.refused b.program b.model b.accepted)
one-fault-of bytes evidence (Evidence f) (Model g) a b = absurd (b.refused a.program a.model a.accepted)
one-fault-of bytes evidence (Evidence f) (Evidence g) a b = ap Evidence (one-evidence-fault bytes evidence f g a b)

one-input-fault : (files : Table) (j : Job) (f g : InputFault) → IsInputFault (Some files) (Some j) f → IsInputFault (Some files) (Some j) g → g ≡ f
one-input-fault files j f g a b =
    let own : b.0 ≡ a.0 = same_bytes _ b.0 a.0 b.1 a.1 in
    let also : b.2 ≡ a.2 = one-evidence files j b.2 a.2 b.3 a.3 in
    one-fault-of a.0 a.2 g f (subst (λ (t : List ℕ). IsFaultOf t a.2 g) own (subst (λ (e : Option (List ℕ)). IsFaultOf b.0 e g) also b.4)) a.4

-- ---- nothing else is answered

fault-report : (told : Option Table) (j : Job) (bytes : List ℕ) (evidence : Option (List ℕ)) (f : InputFault) (passes : Bool) (text : List ℕ) → IsEvidenceFile told j evidence
    → IsFaultOf bytes evidence f → IsTextReport j bytes evidence passes text → ⊥
fault-report told j bytes evidence (Model f) passes text there c r = c.refused r.program r.model r.accepted
fault-report told j bytes None (Evidence f) passes text there c r = let is = c.is in absurd cc
fault-report told j bytes (Some spelled) (Evidence f) passes text there c r =
    let same : r.model ≡ c.model = c.only r.program r.model r.accepted in
    let own : spelled ≡ c.text = some-evidence (Some spelled) spelled c.text refl c.is in
    let e = r.is.evidence in
    c.unspelled e (subst (λ (b : List ℕ). IsEvidenceText c.model b e) own (subst (λ (m : models.Model). IsEvidenceText m spelled e) same r.is.read))

-- files with a fault have no report
pub faulty-report : (told : Option Table) (j : Option Job) (f : InputFault) (passes : Bool) (text : List ℕ) → IsFaultyFile told j f → IsJobReport told j passes text → ⊥
faulty-report None j f passes text c r = c
faulty-report (Some files) None f passes text c r = c
faulty-report (Some files) (Some j) f passes text c r =
    let own : r.bytes ≡ c.0 = same_bytes _ r.bytes c.0 r.file.0 c.1 in
    let also : r.evidence ≡ c.2 = one-evidence files j r.evidence c.2 r.evidence_file c.3 in
    fault-report (Some files) j c.0 c.2 f passes text c.3 c.4
    (subst (λ (b : List ℕ). IsTextReport j b c.2 passes text) own (subst (λ (e : Option (List ℕ)). IsTextReport j r.bytes e passes text) also r.report))

-- a job without evidence has a fault of its model alone
alone-fault : (told : Option Table) (j : Job) (bytes : List ℕ) (evidence : Option (List ℕ)) (f : InputFault) → evidence_name j ≡ None → IsEvidenceFile told j evidence → IsFaultOf bytes evidence f
    → (program : Program) (model : models.Model) → IsAccepted bytes program model → ⊥
alone-fault told j bytes evidence (Model f) alone there c program model accepted = c.refused program model accepted
alone-fault told j bytes None (Evidence f) alone there c program model accepted = let is = c.is in absurd cc
alone-fault told j bytes (Some text) (Evidence f) alone there c program model accepted = let named = there.1 in absurd cc

faulty-short : (files : Table) (j : Job) (f : InputFault) (old new : MeterOf) (full : NodesFull) → IsInputFault (Some files) (Some j) f → IsJobShort (Some files) (Some j) old new full → ⊥
faulty-short files j f old new full c s =
    let own : s.bytes ≡ c.0 = same_bytes _ s.bytes c.0 s.file.0 c.1 in
    alone-fault (Some files) j c.0 c.2 f s.text.diagrams c.3 c.4 s.text.program s.text.model (subst (λ (b : List ℕ). IsAccepted b s.text.program s.text.model) own s.text.accepted)

faulty-asked : (files : Table) (j : Job) (f : InputFault) (a : AskFault) → IsInputFault (Some files) (Some j) f → IsAskedFile (Some files) (Some j) a → ⊥
faulty-asked files j f a c s =
    let own : s.0 ≡ c.0 = same_bytes _ s.0 c.0 s.1.0 c.1 in
    alone-fault (Some files) j c.0 c.2 f (asks_alone s.2.model j a s.2.asked) c.3 c.4 s.2.program s.2.model (subst (λ (b : List ℕ). IsAccepted b s.2.program s.2.model) own s.2.accepted)

-- only want of memory, or a failed read, goes before the fault of files
pub refusal-faulty : (told : Option Table) (before now : ℕ) (j : Option Job) (old new : MeterOf) (f : InputFault) (s : Status) → IsCause told before now j old new s → IsFaultyFile told j f
    → (Rose before now → ⊥) → (s ≡ Input f) ⊎ (s ≡ Memory)
refusal-faulty None before now j old new f s c h calm = absurd h
refusal-faulty (Some files) before now None old new f s c h calm = absurd h
refusal-faulty (Some files) before now (Some j) old new f Done c h calm = absurd c
refusal-faulty (Some files) before now (Some j) old new f Fails c h calm = absurd c
refusal-faulty (Some files) before now (Some j) old new f Words c h calm = absurd cc
refusal-faulty (Some files) before now (Some j) old new f (Input g) c h calm = inl (ap Input (one-input-fault files j f g h c))
refusal-faulty (Some files) before now (Some j) old new f Read c h calm = absurd (elim c.1 [ inl rose ↦ calm rose | inr gone ↦ missing-fault (Some files) (Some j) f gone h ])
refusal-faulty (Some files) before now (Some j) old new f Write c h calm = absurd c
refusal-faulty (Some files) before now (Some j) old new f (Nodes full) c h calm = absurd (faulty-short files j f old new full h c)
refusal-faulty (Some files) before now (Some j) old new f Memory c h calm = inr refl
refusal-faulty (Some files) before now (Some j) old new f (Asked a) c h calm = absurd (faulty-asked files j f a h c)
