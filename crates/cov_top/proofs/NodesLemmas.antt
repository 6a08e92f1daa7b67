-- Lemmas on runs that are out of nodes, and on those that can't be.
use Rattle.std.proofs.Common.{◌≡◌, ℕ, ◌≤◌, ◌<◌, List, Option, Some, None, inl, inr, refl, subst, arith}
use Rattle.cov_io.specs.Outside.{Table, file_of}
use Rattle.cov_space.specs.declared.fault.NodesFull.{NodesFull}
use Rattle.cov_space.specs.Meters.{MeterOf}
use Rattle.cov_types.specs.Roots.{enough}
use Rattle.cov_words.specs.Words.{evidence_name, opts_of}
use Rattle.cov_words.specs.declared.job.Job.{Job}
use Rattle.cov_top.specs.Nodes.{IsAmple, IsAmpleFile, IsJobShort, IsTextShort, KeepsMeter}
use Rattle.cov_top.specs.Run.{IsAcceptedFile, IsEvidenceFile, IsMissing}
use Rattle.cov_top.specs.declared.status.Status.{Status}
use Rattle.cov_top.specs.declared.status.Status.TheVariants as status

same_bytes : (o : Option (List ℕ)) (a b : List ℕ) → o ≡ Some a → o ≡ Some b → a ≡ b
same_bytes o a b e f = cc

-- the file of evidence that is read is there
pub evidence-there : (files : Table) (j : Job) (evidence : Option (List ℕ)) (name : List ℕ) → IsEvidenceFile (Some files) j evidence → evidence_name j ≡ Some name → file_of files name ≡ None → ⊥
evidence-there files j None name file named gone = cc
evidence-there files j (Some bytes) name file named gone = let other = file.1 in let is = file.2.0 in cc

-- a text is not both short of nodes and accepted as a model for which they are enough
text-ample : (told : Option Table) (j : Job) (bytes : List ℕ) (evidence : Option (List ℕ)) (old new : MeterOf) (full : NodesFull) → IsEvidenceFile told j evidence → IsAmple j bytes evidence
    → IsTextShort j bytes old new full → ⊥
text-ample told j bytes (Some text) old new full file a s = let alone = s.diagrams in let named = file.1 in cc
text-ample told j bytes None old new full file a s =
    let nodes : enough s.model ≤ (opts_of j).nodes = subst (λ m. enough m ≤ (opts_of j).nodes) (s.only a.program a.model a.accepted) a.nodes in
    let short : (opts_of j).nodes < enough s.model = s.out.short in
    absurd (omega arith)

-- where the nodes are enough they do not run out
pub ample-short : (told : Option Table) (j : Option Job) (old new : MeterOf) (full : NodesFull) → IsAmpleFile told j → IsJobShort told j old new full → ⊥
ample-short told None old new full a s = a
ample-short None (Some j) old new full a s = a
ample-short (Some files) (Some j) old new full a s =
    text-ample (Some files) j s.bytes a.2 old new full a.3 (subst (λ b. IsAmple j b a.2) (same_bytes _ a.0 s.bytes a.1 s.file.0) a.4) s.text

-- a file that is not there is not short of nodes
pub missing-short : (told : Option Table) (j : Option Job) (old new : MeterOf) (full : NodesFull) → IsMissing told j → IsJobShort told j old new full → ⊥
missing-short told None old new full h s = s
missing-short None (Some j) old new full h s = h
missing-short (Some files) (Some j) old new full (inl h) s = let is = s.file.0 in cc
missing-short (Some files) (Some j) old new full (inr h) s = let alone = s.text.diagrams in let named = h.1 in cc

-- the meter is as before after every status but the one on nodes
pub keeps-meter : (s : Status) (old new : MeterOf) → KeepsMeter s old new → ((full : NodesFull) → s ≡ status.Nodes full → ⊥) → new ≡ old
keeps-meter (status.Nodes full) old new k other = absurd (other full refl)
keeps-meter status.Done old new k other = k
keeps-meter status.Fails old new k other = k
keeps-meter status.Words old new k other = k
keeps-meter (status.Input f) old new k other = k
keeps-meter status.Read old new k other = k
keeps-meter status.Write old new k other = k
keeps-meter status.Memory old new k other = k
keeps-meter (status.Asked a) old new k other = k

-- a file for which the nodes are enough is accepted
pub ample-accepted : (told : Option Table) (j : Option Job) → IsAmpleFile told j → IsAcceptedFile told j
ample-accepted told None a = a
ample-accepted None (Some j) a = a
ample-accepted (Some files) (Some j) a = (a.0, a.1, a.2, a.3, record { program = a.4.program; model = a.4.model; accepted = a.4.accepted; spelled = a.4.spelled })

-- and it is there
pub ample-there : (told : Option Table) (j : Option Job) → IsAmpleFile told j → IsMissing told j → ⊥
ample-there told None a h = a
ample-there None (Some j) a h = a
ample-there (Some files) (Some j) a (inl h) = let is = a.1 in cc
ample-there (Some files) (Some j) a (inr h) = evidence-there files j a.2 h.0 a.3 h.1 h.2

-- and the words ask for a job
pub ample-job : (told : Option Table) (j : Option Job) → IsAmpleFile told j → j ≡ None → ⊥
ample-job told None a e = a
ample-job told (Some j) a e = cc
