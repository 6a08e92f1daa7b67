-- Lemmas on runs that have enough of all but memory.
use Rattle.std.proofs.Common.{◌≡◌, ℕ, Bool, List, Option, Some, None, ◌⊎◌, inl, inr, refl, ap}
use Rattle.cov_io.specs.Outside.{Table, Rose}
use Rattle.cov_space.specs.Meters.{MeterOf}
use Rattle.cov_words.specs.declared.job.Job.{Job}
use Rattle.cov_top.specs.Nodes.{IsAmpleFile}
use Rattle.cov_top.specs.Refusal.{IsCause}
use Rattle.cov_jobs.specs.declared.fault.AskFault.{AskFault}
use Rattle.cov_top.specs.Run.{IsInputFault, IsJobReport, IsMissing, IsUnknownFile}
use Rattle.cov_top.specs.declared.status.InputFault.{InputFault}
use Rattle.cov_top.specs.declared.status.Status.{Status}
use Rattle.cov_top.specs.declared.status.Status.TheVariants.{Done, Fails, Words, Input, Read, Write, Nodes, Memory, Asked}
use Rattle.cov_top.proofs.NodesLemmas.{evidence-there, ample-accepted, ample-job, ample-short, ample-there, missing-short}
use Rattle.cov_top.proofs.AskedLemmas.{ample-unasked, missing-asked, unknown-fault, unknown-short, unknown-there, unknown-job, one-question}
use Rattle.cov_top.proofs.RunLemmas.{accepted-fault}

missing-job : (told : Option Table) (j : Option Job) → IsMissing told j → j ≡ None → ⊥
missing-job told None h e = h
missing-job told (Some j) h e = cc

pub missing-fault : (told : Option Table) (j : Option Job) (f : InputFault) → IsMissing told j → IsInputFault told j f → ⊥
missing-fault told None f h r = h
missing-fault None (Some j) f h r = h
missing-fault (Some files) (Some j) f (inl h) r = let is = r.1 in cc
missing-fault (Some files) (Some j) f (inr h) r = evidence-there files j r.2 h.0 r.3 h.1 h.2

-- only want of memory refuses a file for which the nodes are enough, where no read failed
pub refusal-complete : (told : Option Table) (before now : ℕ) (j : Option Job) (old new : MeterOf) (s : Status) → IsCause told before now j old new s
    → IsAmpleFile told j → (Rose before now → ⊥) → (s ≡ Done) ⊎ ((s ≡ Fails) ⊎ (s ≡ Memory))
refusal-complete told before now j old new Done c a calm = inl refl
refusal-complete told before now j old new Fails c a calm = absurd c
refusal-complete told before now j old new Words c a calm = absurd (ample-job told j a c)
refusal-complete told before now j old new (Input f) c a calm = absurd (accepted-fault told j f (ample-accepted told j a) c)
refusal-complete told before now j old new Read c a calm = absurd (elim c.1 [ inl rose ↦ calm rose | inr gone ↦ ample-there told j a gone ])
refusal-complete told before now j old new Write c a calm = absurd c
refusal-complete told before now j old new (Nodes full) c a calm = absurd (ample-short told j old new full a c)
refusal-complete told before now j old new Memory c a calm = inr (inr refl)
refusal-complete told before now j old new (Asked q) c a calm = absurd (ample-unasked told j q a c)

-- a file that is not there is refused as one that was not read, or for want of memory
pub refusal-missing : (told : Option Table) (before now : ℕ) (j : Option Job) (old new : MeterOf) (s : Status) → IsCause told before now j old new s
    → IsMissing told j → (s ≡ Read) ⊎ (s ≡ Memory)
refusal-missing told before now j old new Done c h = absurd c
refusal-missing told before now j old new Fails c h = absurd c
refusal-missing told before now j old new Words c h = absurd (missing-job told j h c)
refusal-missing told before now j old new (Input f) c h = absurd (missing-fault told j f h c)
refusal-missing told before now j old new Read c h = inl refl
refusal-missing told before now j old new Write c h = absurd c
refusal-missing told before now j old new (Nodes full) c h = absurd (missing-short told j old new full h c)
refusal-missing told before now j old new Memory c h = inr refl
refusal-missing told before now j old new (Asked q) c h = absurd (missing-asked told j q h c)

-- where a file is not there, there is no report
pub missing-report : (told : Option Table) (j : Option Job) (passes : Bool) (text : List ℕ) → IsMissing told j → IsJobReport told j passes text → ⊥
missing-report told None passes text h r = r
missing-report None (Some j) passes text h r = h
missing-report (Some files) (Some j) passes text (inl h) r = let is = r.file.0 in cc
missing-report (Some files) (Some j) passes text (inr h) r = evidence-there files j r.evidence h.0 r.evidence_file h.1 h.2

-- a report is put whole, where no write failed
pub report-complete : (before now : ℕ) (s : Status) → (s ≡ Done) ⊎ ((s ≡ Fails) ⊎ (s ≡ Write)) → (s ≡ Write → Rose before now) → (Rose before now → ⊥)
    → (s ≡ Done) ⊎ ((s ≡ Fails) ⊎ (s ≡ Memory))
report-complete before now s (inl done) write calm = inl done
report-complete before now s (inr (inl fails)) write calm = inr (inl fails)
report-complete before now s (inr (inr cut)) write calm = absurd (calm (write cut))

-- only want of memory, or a failed read, goes before the question about a signal that the model does not have
pub refusal-unknown : (told : Option Table) (before now : ℕ) (j : Option Job) (old new : MeterOf) (a : AskFault) (s : Status) → IsCause told before now j old new s
    → IsUnknownFile told j a → (Rose before now → ⊥) → (s ≡ Asked a) ⊎ (s ≡ Memory)
refusal-unknown told before now j old new a Done c u calm = absurd c
refusal-unknown told before now j old new a Fails c u calm = absurd c
refusal-unknown told before now j old new a Words c u calm = absurd (unknown-job told j a u c)
refusal-unknown told before now j old new a (Input f) c u calm = absurd (unknown-fault told j a f u c)
refusal-unknown told before now j old new a Read c u calm = absurd (elim c.1 [ inl rose ↦ calm rose | inr gone ↦ unknown-there told j a u gone ])
refusal-unknown told before now j old new a Write c u calm = absurd c
refusal-unknown told before now j old new a (Nodes full) c u calm = absurd (unknown-short told j a old new full u c)
refusal-unknown told before now j old new a Memory c u calm = inr refl
refusal-unknown told before now j old new a (Asked b) c u calm = inl (ap Asked (one-question told j a b u c))
