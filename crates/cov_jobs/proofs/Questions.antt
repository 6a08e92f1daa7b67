-- Lemmas on what a job asks of a model that does not have it.
use Rattle.std.proofs.Common.{◌≡◌, ℕ, Bool, List, None, refl, ap}
use Rattle.cov_model.specs.declared.model.Model.{Model}
use Rattle.cov_coverage.proofs.Unknown.{named_known, one_unknown}
use Rattle.cov_words.specs.Words.{evidence_name}
use Rattle.cov_words.specs.declared.job.Job.{Job}
use Rattle.cov_words.specs.declared.job.Job.TheVariants.{Init, Reach, Check, Vacuity, Cover, Replay}
use Rattle.cov_jobs.specs.declared.fault.AskFault.{AskFault}
use Rattle.cov_jobs.specs.declared.fault.AskFault.TheVariants.{UnknownSignal}
use Rattle.cov_jobs.specs.Faults.{IsAsked}
use Rattle.cov_jobs.specs.Jobs.{IsReportOn}

-- where the model lacks a signal there is no report
pub unreported : (m : Model) (j : Job) (a : AskFault) (passes : Bool) (text : List ℕ) → IsAsked m j a → IsReportOn j m passes text → ⊥
unreported m (Init name opts) a passes text asked r = asked
unreported m (Reach name opts) a passes text asked r = asked
unreported m (Check name opts) a passes text asked r = asked
unreported m (Vacuity name opts) a passes text asked r = asked
unreported m (Cover name signals opts) (UnknownSignal place) passes text asked r = named_known m signals r.0 place r.1 asked
unreported m (Replay name evidence) a passes text asked r = r

-- one fault alone is told of a question
pub one_fault : (m : Model) (j : Job) (p q : AskFault) → IsAsked m j p → IsAsked m j q → p ≡ q
one_fault m (Init name opts) p q a b = absurd a
one_fault m (Reach name opts) p q a b = absurd a
one_fault m (Check name opts) p q a b = absurd a
one_fault m (Vacuity name opts) p q a b = absurd a
one_fault m (Cover name signals opts) (UnknownSignal p) (UnknownSignal q) a b = ap UnknownSignal (one_unknown m signals p q a b)
one_fault m (Replay name evidence) p q a b = absurd a

-- a job that asks for what a model lacks reads no evidence
pub asks_alone : (m : Model) (j : Job) (a : AskFault) → IsAsked m j a → evidence_name j ≡ None
asks_alone m (Init name opts) a asked = refl
asks_alone m (Reach name opts) a asked = refl
asks_alone m (Check name opts) a asked = refl
asks_alone m (Vacuity name opts) a asked = refl
asks_alone m (Cover name signals opts) a asked = refl
asks_alone m (Replay name evidence) a asked = absurd asked
