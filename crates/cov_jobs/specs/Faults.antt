-- Why a job has no report on a model.
use Rattle.std.specs.Prelude.{◌≡◌}
use Rattle.cov_model.specs.declared.model.Model.{Model}
use Rattle.cov_space.specs.declared.fault.SpaceFault.{SpaceFault}
use Rattle.cov_space.specs.declared.fault.SpaceFault.TheVariants as space
use Rattle.cov_space.specs.Meters.{MeterOf}
use Rattle.cov_sym.specs.Systems.{IsOutOfNodes}
use Rattle.cov_coverage.specs.declared.names.NameFault.{NameFault}
use Rattle.cov_coverage.specs.declared.names.NameFault.TheVariants as name
use Rattle.cov_coverage.specs.Names.{IsFirstUnknown}
use Rattle.cov_words.specs.Words.{opts_of}
use Rattle.cov_words.specs.declared.job.Job.{Job}
use Rattle.cov_words.specs.declared.job.Job.TheVariants.{Init, Reach, Check, Vacuity, Cover, Replay}
use Rattle.cov_jobs.specs.declared.fault.AskFault.{AskFault}
use Rattle.cov_jobs.specs.declared.fault.AskFault.TheVariants.{UnknownSignal}
use Rattle.cov_jobs.specs.declared.fault.JobFault.{JobFault}
use Rattle.cov_jobs.specs.declared.fault.JobFault.TheVariants.{Asked, Nodes, Memory}

-- a refusal of a call on the sets of a model
abbrev pub of_space : SpaceFault → JobFault
of_space (space.Nodes full) = Nodes full
of_space space.Memory = Memory

-- a refusal of the names of signals
abbrev pub of_names : NameFault → JobFault
of_names (name.Unknown place) = Asked (UnknownSignal place)
of_names name.Memory = Memory

-- what is wrong with what a job asks of a model: the first signal that the model does not have
abbrev pub IsAsked : Model → Job → AskFault → Type 0
IsAsked m (Init name opts) a = ⊥
IsAsked m (Reach name opts) a = ⊥
IsAsked m (Check name opts) a = ⊥
IsAsked m (Vacuity name opts) a = ⊥
IsAsked m (Cover name signals opts) (UnknownSignal place) = IsFirstUnknown m signals place
IsAsked m (Replay name evidence) a = ⊥

-- why a job has no report on a model, and what the meter was told; nodes run out only where the model has what is asked of it
abbrev pub IsJobFault : Job → Model → MeterOf → MeterOf → JobFault → Type 0
IsJobFault j m old new (Asked a) = IsAsked m j a × (new ≡ old)
IsJobFault j m old new (Nodes full) = ((a : AskFault) → IsAsked m j a → ⊥) × IsOutOfNodes m (opts_of j).nodes old new full
IsJobFault j m old new Memory = new ≡ old
