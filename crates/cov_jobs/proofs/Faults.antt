-- Lemmas on why a job has no report.
use Rattle.std.proofs.Common.{ℕ, List, Result, Ok, Err, IfErr, refl}
use Rattle.cov_model.specs.declared.model.Model.{Model}
use Rattle.cov_space.specs.declared.fault.SpaceFault.{SpaceFault}
use Rattle.cov_space.specs.declared.fault.SpaceFault.TheVariants as space
use Rattle.cov_space.specs.Meters.{MeterOf}
use Rattle.cov_sym.specs.Systems.{IsBuildFault}
use Rattle.cov_coverage.specs.declared.names.NameFault.{NameFault}
use Rattle.cov_coverage.specs.declared.names.NameFault.TheVariants as name
use Rattle.cov_coverage.specs.declared.names.NamedSignal.{NamedSignal}
use Rattle.cov_coverage.specs.Names.{AreNamed, IsFirstUnknown, IsNameFault}
use Rattle.cov_coverage.proofs.Unknown.{named_known}
use Rattle.cov_words.specs.Words.{opts_of}
use Rattle.cov_words.specs.declared.job.Job.{Job}
use Rattle.cov_words.specs.declared.job.Job.TheVariants.{Cover}
use Rattle.cov_words.specs.declared.job.Opts.{Opts}
use Rattle.cov_jobs.specs.Coverage.{IsCoverageFault}
use Rattle.cov_jobs.specs.Faults.{IsAsked, IsJobFault, of_names, of_space}
use Rattle.cov_jobs.specs.declared.fault.AskFault.{AskFault}
use Rattle.cov_jobs.specs.declared.fault.AskFault.TheVariants.{UnknownSignal}
use Rattle.cov_jobs.specs.declared.fault.JobFault.{JobFault}
use Rattle.cov_jobs.specs.declared.fault.JobFault.TheVariants as job

-- a refusal of the sets of a job that asks nothing else
pub of_build : (j : Job) (m : Model) (old new : MeterOf) (f : SpaceFault) → ((a : AskFault) → IsAsked m j a → ⊥) → IsBuildFault m (opts_of j).nodes old new f → IsJobFault j m old new (of_space f)
of_build j m old new (space.Nodes full) none h = (none, h)
of_build j m old new space.Memory none h = h

-- a name that the model does not have
pub of_unknown : (m : Model) (names : List (List ℕ)) (nodes : ℕ) (old : MeterOf) (f : NameFault) → IsNameFault m names f → IsCoverageFault m names nodes old old (of_names f)
of_unknown m names nodes old (name.Unknown place) h = (h, refl)
of_unknown m names nodes old name.Memory h = refl

-- a refusal of the sets, where all names are those of signals
pub of_named : (m : Model) (names : List (List ℕ)) (signals : List NamedSignal) (nodes : ℕ) (old new : MeterOf) (f : SpaceFault) → AreNamed m names signals → IsBuildFault m nodes old new f
    → IsCoverageFault m names nodes old new (of_space f)
of_named m names signals nodes old new (space.Nodes full) named h = (λ place u. named_known m names signals place named u, h)
of_named m names signals nodes old new space.Memory named h = h

unasked : (m : Model) (model : List ℕ) (names : List (List ℕ)) (opts : Opts) → ((place : ℕ) → IsFirstUnknown m names place → ⊥) → (a : AskFault) → IsAsked m (Cover model names opts) a → ⊥
unasked m model names opts none (UnknownSignal place) u = none place u

of_coverage : (m : Model) (model : List ℕ) (names : List (List ℕ)) (opts : Opts) (old new : MeterOf) (f : JobFault) → IsCoverageFault m names opts.nodes old new f → IsJobFault (Cover model names opts) m old new f
of_coverage m model names opts old new (job.Asked (UnknownSignal place)) h = h
of_coverage m model names opts old new (job.Nodes full) h = (unasked m model names opts h.0, h.1)
of_coverage m model names opts old new job.Memory h = h

-- why there is no report on covered states
pub covered_fault : {T : Type 0} (r : Result T JobFault) (m : Model) (model : List ℕ) (names : List (List ℕ)) (opts : Opts) (old new : MeterOf) → IfErr r (IsCoverageFault m names opts.nodes old new)
    → IfErr r (IsJobFault (Cover model names opts) m old new)
covered_fault (Ok x) m model names opts old new h = tt
covered_fault (Err f) m model names opts old new h = of_coverage m model names opts old new f h
