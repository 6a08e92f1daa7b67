-- What a run of the program reads, reports and tells.
use Rattle.std.specs.Prelude.{◌≡◌, ℕ, ◌-◌, Bool, List, slice_get, Option, Some, None, ◌⊎◌}
use Rattle.cov_io.specs.Outside.{Table, file_of, IsFile}
use Rattle.cov_syntax.specs.declared.program.Program.{Program}
use Rattle.cov_model.specs.declared.model.Model as models
use Rattle.cov_top.specs.Reading.{IsAccepted, IsTextFault}
use Rattle.cov_syntax.specs.declared.words.Word.{Word}
use Rattle.cov_top.specs.Position.{line_of, column_of, told_word}
use Rattle.cov_claims.specs.declared.evidence.Evidence as claims
use Rattle.cov_claims.specs.Proved.{IsProved}
use Rattle.cov_claims.specs.Valid.{IsValid}
use Rattle.cov_evid.specs.declared.fault.EvidFault.{EvidFault}
use Rattle.cov_evid.specs.FirstFault.{evid_fault}
use Rattle.cov_jobs.specs.Jobs.{IsReportOn}
use Rattle.cov_jobs.specs.Replays.{IsEvidenceText, IsReplayReport}
use Rattle.cov_words.specs.Words.{evidence_name, model_name}
use Rattle.cov_words.specs.declared.job.Job.{Job}
use Rattle.cov_top.specs.declared.status.Status.{Status}
use Rattle.cov_top.specs.declared.status.Status.TheVariants.{Input, Asked}
use Rattle.cov_jobs.specs.declared.fault.AskFault.{AskFault}
use Rattle.cov_jobs.specs.declared.fault.AskFault.TheVariants.{UnknownSignal}
use Rattle.cov_jobs.specs.Faults.{IsAsked}
use Rattle.cov_words.specs.declared.job.Job.TheVariants.{Init, Reach, Check, Vacuity, Cover, Replay}
use Rattle.cov_top.specs.declared.status.InputFault.{InputFault}
use Rattle.cov_top.specs.declared.status.InputFault.TheVariants.{Model, Evidence}

-- the bytes are those of the file that the job names, where files are told
abbrev pub IsModelFile : Option Table → Option Job → List ℕ → Type 0
IsModelFile told None bytes = ⊥
IsModelFile told (Some j) bytes = IsFile told (model_name j) (Some bytes)

-- the bytes are those of the file of evidence that the job names, where files are told; there are none where it names none
abbrev pub IsEvidenceFile : Option Table → Job → Option (List ℕ) → Type 0
IsEvidenceFile told j None = evidence_name j ≡ None
IsEvidenceFile told j (Some bytes) = (name : List ℕ) × (evidence_name j ≡ Some name) × IsFile told name (Some bytes)

-- files are told, and one that the job names is not among them
abbrev pub IsMissing : Option Table → Option Job → Type 0
IsMissing told None = ⊥
IsMissing None (Some j) = ⊥
IsMissing (Some files) (Some j) = (file_of files (model_name j) ≡ None) ⊎ ((name : List ℕ) × (evidence_name j ≡ Some name) × (file_of files name ≡ None))

-- the bytes are accepted as a model
pub record HasModel (bytes : List ℕ) : Type 0 where
  pub program : Program
  pub model : models.Model
  pub accepted : IsAccepted bytes program model

-- the bytes of evidence, where there are some, are the text of evidence that speaks of the model
abbrev pub IsSpelled : models.Model → Option (List ℕ) → Type 0
IsSpelled m None = Unit {0}
IsSpelled m (Some bytes) = (e : claims.Evidence) × IsEvidenceText m bytes e

-- the bytes are accepted as a model, and those of the evidence speak of it
pub record HasInput (bytes : List ℕ) (evidence : Option (List ℕ)) : Type 0 where
  pub program : Program
  pub model : models.Model
  pub accepted : IsAccepted bytes program model
  pub spelled : IsSpelled model evidence

-- files are told, and the bytes of those that the job names are accepted as a model, and as evidence that speaks of it
abbrev pub IsAcceptedFile : Option Table → Option Job → Type 0
IsAcceptedFile told None = ⊥
IsAcceptedFile None (Some j) = ⊥
IsAcceptedFile (Some files) (Some j) =
    (bytes : List ℕ) × (file_of files (model_name j) ≡ Some bytes)
    × (evidence : Option (List ℕ)) × IsEvidenceFile (Some files) j evidence × HasInput bytes evidence

-- files are told, and the bytes of the one that the job names are accepted as no model
abbrev pub IsRefusedFile : Option Table → Option Job → Type 0
IsRefusedFile told None = ⊥
IsRefusedFile None (Some j) = ⊥
IsRefusedFile (Some files) (Some j) = (bytes : List ℕ) × (file_of files (model_name j) ≡ Some bytes) × (HasModel bytes → ⊥)

-- the report of a job on a model, and on the bytes of evidence where it has some
abbrev pub IsReportWith : Job → Option (List ℕ) → models.Model → Bool → List ℕ → Type 0
IsReportWith j None m passes text = IsReportOn j m passes text
IsReportWith j (Some bytes) m passes text = IsReplayReport m bytes passes text

-- a text is accepted as a model and as no other, and the report of a job on it, with the bytes of its evidence, is this text
pub record IsTextReport (j : Job) (bytes : List ℕ) (evidence : Option (List ℕ)) (passes : Bool) (text : List ℕ) : Type 0 where
  pub program : Program
  pub model : models.Model
  pub accepted : IsAccepted bytes program model
  pub only : (p : Program) (m : models.Model) → IsAccepted bytes p m → m ≡ model
  pub is : IsReportWith j evidence model passes text

-- the text is the report on the whole files of the job
pub record IsReport (told : Option Table) (j : Job) (passes : Bool) (text : List ℕ) : Type 0 where
  pub bytes : List ℕ
  pub file : IsFile told (model_name j) (Some bytes)
  pub evidence : Option (List ℕ)
  pub evidence_file : IsEvidenceFile told j evidence
  pub report : IsTextReport j bytes evidence passes text

-- the words ask for a job, and the text is its report
abbrev pub IsJobReport : Option Table → Option Job → Bool → List ℕ → Type 0
IsJobReport told None passes text = ⊥
IsJobReport told (Some j) passes text = IsReport told j passes text

-- a text is accepted as a model and as no other, and the bytes of the evidence, which are the text of none, have this first fault
pub record IsTextEvidenceFault (bytes : List ℕ) (evidence : Option (List ℕ)) (f : EvidFault) : Type 0 where
  pub program : Program
  pub model : models.Model
  pub accepted : IsAccepted bytes program model
  pub only : (p : Program) (m : models.Model) → IsAccepted bytes p m → m ≡ model
  pub text : List ℕ
  pub is : evidence ≡ Some text
  pub fault : evid_fault model text ≡ Some f
  pub unspelled : (e : claims.Evidence) → IsEvidenceText model text e → ⊥

-- the bytes of the model, or else those of the evidence, have this fault
abbrev pub IsFaultOf : List ℕ → Option (List ℕ) → InputFault → Type 0
IsFaultOf bytes evidence (Model f) = IsTextFault bytes f
IsFaultOf bytes evidence (Evidence f) = IsTextEvidenceFault bytes evidence f

-- the whole files of the job have this fault, where files are told
abbrev pub IsInputFault : Option Table → Option Job → InputFault → Type 0
IsInputFault told None f = ⊥
IsInputFault None (Some j) f = Unit {0}
IsInputFault (Some files) (Some j) f =
    (bytes : List ℕ) × (file_of files (model_name j) ≡ Some bytes)
    × (evidence : Option (List ℕ)) × IsEvidenceFile (Some files) j evidence × IsFaultOf bytes evidence f

-- files are told, and those of the job have this fault
abbrev pub IsFaultyFile : Option Table → Option Job → InputFault → Type 0
IsFaultyFile None j f = ⊥
IsFaultyFile (Some files) j f = IsInputFault (Some files) j f

-- the signal at the place, from 1, that a fault of a job's question tells
abbrev pub IsSignalAt : Job → AskFault → List ℕ → Type 0
IsSignalAt (Init name opts) a signal = ⊥
IsSignalAt (Reach name opts) a signal = ⊥
IsSignalAt (Check name opts) a signal = ⊥
IsSignalAt (Vacuity name opts) a signal = ⊥
IsSignalAt (Cover name signals opts) (UnknownSignal place) signal = slice_get signals (place - 1) ≡ Some signal
IsSignalAt (Replay name evidence) a signal = ⊥

-- the same where the words ask for a job
abbrev pub IsToldSignal : Option Job → AskFault → List ℕ → Type 0
IsToldSignal None a signal = ⊥
IsToldSignal (Some j) a signal = IsSignalAt j a signal

-- the line and the column of the place of a status' fault in the file of the job, and the word that is told there; or the signal that is told
abbrev pub IsPlace : Option Table → Option Job → Status → ℕ → ℕ → Option Word → List ℕ → Type 0
IsPlace told j (Input (Model f)) line column word signal =
    (bytes : List ℕ) × IsModelFile told j bytes × (line ≡ line_of bytes f.place.start) × (column ≡ column_of bytes f.place.start) × (word ≡ told_word bytes f)
IsPlace told j (Asked a) line column word signal = IsToldSignal j a signal
IsPlace told j _ line column word signal = Unit {0}

-- a text is accepted as a model and as no other, and this is wrong with what a job asks of it
pub record IsTextAsked (j : Job) (bytes : List ℕ) (a : AskFault) : Type 0 where
  pub program : Program
  pub model : models.Model
  pub accepted : IsAccepted bytes program model
  pub only : (p : Program) (m : models.Model) → IsAccepted bytes p m → m ≡ model
  pub asked : IsAsked model j a

-- the same of the whole file of the job
abbrev pub IsAskedFile : Option Table → Option Job → AskFault → Type 0
IsAskedFile told None a = ⊥
IsAskedFile told (Some j) a = (bytes : List ℕ) × IsFile told (model_name j) (Some bytes) × IsTextAsked j bytes a

-- files are told, and the one that the job names is accepted as a model of which it asks what is wrong so
abbrev pub IsUnknownFile : Option Table → Option Job → AskFault → Type 0
IsUnknownFile told None a = ⊥
IsUnknownFile None (Some j) a = ⊥
IsUnknownFile (Some files) (Some j) a = (bytes : List ℕ) × (file_of files (model_name j) ≡ Some bytes) × (program : Program) × (model : models.Model) × IsAccepted bytes program model × IsAsked model j a

-- The files are accepted as a model and as evidence that speaks of it, which is valid, and so it proves its claim: the refuted formula does not pass, and
-- a mutant's state is reachable.
pub record ProvesClaim (told : Option Table) (model_file evidence_file : List ℕ) : Type 0 where
  pub bytes : List ℕ
  pub file : IsFile told model_file (Some bytes)
  pub program : Program
  pub model : models.Model
  pub accepted : IsAccepted bytes program model
  pub only : (p : Program) (m : models.Model) → IsAccepted bytes p m → m ≡ model
  pub text : List ℕ
  pub text_file : IsFile told evidence_file (Some text)
  pub evidence : claims.Evidence
  pub read : IsEvidenceText model text evidence
  pub valid : IsValid model evidence
  pub proved : IsProved model evidence

-- the files are accepted as a model and as evidence that speaks of it, which is not valid
pub record ProvesNothing (told : Option Table) (model_file evidence_file : List ℕ) : Type 0 where
  pub bytes : List ℕ
  pub file : IsFile told model_file (Some bytes)
  pub program : Program
  pub model : models.Model
  pub accepted : IsAccepted bytes program model
  pub only : (p : Program) (m : models.Model) → IsAccepted bytes p m → m ≡ model
  pub text : List ℕ
  pub text_file : IsFile told evidence_file (Some text)
  pub evidence : claims.Evidence
  pub read : IsEvidenceText model text evidence
  pub invalid : IsValid model evidence → ⊥
