-- Why there is no report.
use Rattle.std.specs.Prelude.{◌≡◌, ℕ, ◌≤◌, ◌⊎◌, List, length, Option, None, IsSome}
use Rattle.cov_jobs.specs.declared.fault.AskFault.{AskFault}
use Rattle.cov_jobs.specs.declared.fault.AskFault.TheVariants.{UnknownSignal}
use Rattle.cov_words.specs.declared.job.Job.TheVariants.{Init, Reach, Check, Vacuity, Cover, Replay}
use Rattle.cov_io.specs.Outside.{Table, Rose}
use Rattle.cov_top.specs.ErrorLine.{named}
use Rattle.cov_top.specs.Run.{IsAskedFile, IsInputFault, IsMissing, IsPlace, IsSignalAt}
use Rattle.cov_syntax.specs.declared.fault.FaultKind.TheVariants as fault
use Rattle.cov_syntax.specs.declared.fault.ModelFault.{ModelFault}
use Rattle.cov_top.specs.declared.refusal.NoReport.{NoReport}
use Rattle.cov_top.specs.declared.refusal.NoReport.TheVariants as no_report
use Rattle.cov_syntax.specs.Tokens.{fault_at}
use Rattle.cov_top.specs.Position.{line_of, column_of, told_word}
use Rattle.cov_top.specs.declared.status.InputFault.TheVariants.{Model, Evidence}
use Rattle.cov_words.specs.declared.job.Job.{Job}
use Rattle.cov_space.specs.Meters.{MeterOf}
use Rattle.cov_top.specs.Nodes.{IsJobShort, KeepsMeter}
use Rattle.cov_top.specs.declared.status.Status.{Status}
use Rattle.cov_top.specs.declared.status.Status.TheVariants.{Done, Fails, Words, Input, Read, Write, Nodes, Memory, Asked}
use Rattle.cov_top.specs.declared.refusal.Refusal.{Refusal}

-- the fault of a text with more bytes than the limit
abbrev pub file_too_long : ModelFault
file_too_long = fault_at fault.FileTooLong 0 0

-- a fault of a job's question that tells a signal
abbrev pub IsTold : Job → AskFault → Type 0
IsTold (Init name opts) a = ⊥
IsTold (Reach name opts) a = ⊥
IsTold (Check name opts) a = ⊥
IsTold (Vacuity name opts) a = ⊥
IsTold (Cover name signals opts) (UnknownSignal place) = (1 ≤ place) × (place ≤ length signals)
IsTold (Replay name evidence) a = ⊥

-- what is wrong with a job's question, where that is why there is no report
abbrev pub IsAnswerable : Job → NoReport → Type 0
IsAnswerable j (no_report.Fault f) = Unit {0}
IsAnswerable j (no_report.Evidence f) = Unit {0}
IsAnswerable j (no_report.Asked a) = IsTold j a
IsAnswerable j (no_report.Nodes full) = Unit {0}
IsAnswerable j no_report.Memory = Unit {0}

-- the refusal of a text that has no report, with the place of its fault
abbrev pub IsUnread : Job → List ℕ → NoReport → Refusal → Type 0
IsUnread j text (no_report.Fault f) r =
    (r.status ≡ Input (Model f)) × (r.position.line ≡ line_of text f.place.start) × (r.position.column ≡ column_of text f.place.start) × (r.word ≡ told_word text f)
IsUnread j text (no_report.Evidence f) r = r.status ≡ Input (Evidence f)
IsUnread j text (no_report.Asked a) r = ((r.status ≡ Asked a) × IsSignalAt j a (named r.signal)) ⊎ (r.status ≡ Memory)
IsUnread j text (no_report.Nodes full) r = r.status ≡ Nodes full
IsUnread j text no_report.Memory r = r.status ≡ Memory

-- the cause of a status that gives no report
abbrev pub IsCause : Option Table → ℕ → ℕ → Option Job → MeterOf → MeterOf → Status → Type 0
IsCause told before now j old new Done = ⊥
IsCause told before now j old new Fails = ⊥
IsCause told before now j old new Words = j ≡ None
IsCause told before now j old new (Input f) = IsInputFault told j f
IsCause told before now j old new Read = IsSome j × (Rose before now ⊎ IsMissing told j)
IsCause told before now j old new Write = ⊥
IsCause told before now j old new (Nodes full) = IsJobShort told j old new full
IsCause told before now j old new Memory = Unit {0}
IsCause told before now j old new (Asked a) = IsAskedFile told j a

-- a status with its cause, and the place of its fault
pub record IsRefusal (told : Option Table) (before now : ℕ) (j : Option Job) (old new : MeterOf) (r : Refusal) : Type 0 where
  pub cause : IsCause told before now j old new r.status
  pub meter : KeepsMeter r.status old new
  pub place : IsPlace told j r.status r.position.line r.position.column r.word (named r.signal)
