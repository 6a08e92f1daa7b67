-- When a run is out of nodes, and when it can't be.
use Rattle.std.specs.Prelude.{◌≡◌, ℕ, ◌≤◌, List, Option, Some, None}
use Rattle.cov_io.specs.Outside.{Table, file_of, IsFile}
use Rattle.cov_syntax.specs.declared.program.Program.{Program}
use Rattle.cov_model.specs.declared.model.Model as models
use Rattle.cov_space.specs.declared.fault.NodesFull.{NodesFull}
use Rattle.cov_space.specs.Meters.{MeterOf}
use Rattle.cov_sym.specs.Systems.{IsOutOfNodes}
use Rattle.cov_jobs.specs.declared.fault.AskFault.{AskFault}
use Rattle.cov_jobs.specs.Faults.{IsAsked}
use Rattle.cov_types.specs.Roots.{enough}
use Rattle.cov_words.specs.Words.{evidence_name, model_name, opts_of}
use Rattle.cov_words.specs.declared.job.Job.{Job}
use Rattle.cov_top.specs.Reading.{IsAccepted}
use Rattle.cov_top.specs.Run.{IsEvidenceFile, IsSpelled}
use Rattle.cov_top.specs.declared.status.Status.{Status}
use Rattle.cov_top.specs.declared.status.Status.TheVariants.{Nodes}

-- A text is accepted as one model and as no other, of which the job asks what it has, and an operation on its sets was refused, which the meter was told: the
-- nodes of the job, which is no replay, are fewer than what is enough for the model.
pub record IsTextShort (j : Job) (bytes : List ℕ) (old new : MeterOf) (full : NodesFull) : Type 0 where
  pub program : Program
  pub model : models.Model
  pub accepted : IsAccepted bytes program model
  pub only : (p : Program) (m : models.Model) → IsAccepted bytes p m → m ≡ model
  pub unasked : (a : AskFault) → IsAsked model j a → ⊥
  pub diagrams : evidence_name j ≡ None
  pub out : IsOutOfNodes model (opts_of j).nodes old new full

-- the same of the whole file of the job
pub record IsShort (told : Option Table) (j : Job) (old new : MeterOf) (full : NodesFull) : Type 0 where
  pub bytes : List ℕ
  pub file : IsFile told (model_name j) (Some bytes)
  pub text : IsTextShort j bytes old new full

-- the words ask for a job, and its file is short of nodes
abbrev pub IsJobShort : Option Table → Option Job → MeterOf → MeterOf → NodesFull → Type 0
IsJobShort told None old new full = ⊥
IsJobShort told (Some j) old new full = IsShort told j old new full

-- the meter is as before but where the nodes ran out
abbrev pub KeepsMeter : Status → MeterOf → MeterOf → Type 0
KeepsMeter (Nodes full) old new = Unit {0}
KeepsMeter s old new = new ≡ old

-- the nodes of a job are enough for a model; a replay, which has evidence, makes no diagram
abbrev pub HasNodes : Job → Option (List ℕ) → models.Model → Type 0
HasNodes j None m = enough m ≤ (opts_of j).nodes
HasNodes j (Some bytes) m = Unit {0}

-- A text is accepted as a model of which the job asks what it has, and for which its nodes are enough. The bytes of the evidence, where there are some, speak
-- of the model.
pub record IsAmple (j : Job) (bytes : List ℕ) (evidence : Option (List ℕ)) : Type 0 where
  pub program : Program
  pub model : models.Model
  pub accepted : IsAccepted bytes program model
  pub unasked : (a : AskFault) → IsAsked model j a → ⊥
  pub spelled : IsSpelled model evidence
  pub nodes : HasNodes j evidence model

-- files are told, and those that the job names are accepted as a model for which its nodes are enough, and as evidence that speaks of it
abbrev pub IsAmpleFile : Option Table → Option Job → Type 0
IsAmpleFile told None = ⊥
IsAmpleFile None (Some j) = ⊥
IsAmpleFile (Some files) (Some j) =
    (bytes : List ℕ) × (file_of files (model_name j) ≡ Some bytes)
    × (evidence : Option (List ℕ)) × IsEvidenceFile (Some files) j evidence × IsAmple j bytes evidence
