-- Why there is no report on a text.
use Rattle.std.specs.Prelude.{◌≡◌, ℕ, List, Option, Some}
use Rattle.cov_syntax.specs.declared.fault.Refused.{Refused}
use Rattle.cov_syntax.specs.declared.fault.Refused.TheVariants as refused
use Rattle.cov_jobs.specs.declared.fault.JobFault.{JobFault}
use Rattle.cov_jobs.specs.declared.fault.JobFault.TheVariants as job
use Rattle.cov_space.specs.Meters.{MeterOf}
use Rattle.cov_words.specs.declared.job.Job.{Job}
use Rattle.cov_top.specs.Nodes.{IsTextShort}
use Rattle.cov_top.specs.Reading.{IsTextFault}
use Rattle.cov_model.specs.declared.model.Model.{Model}
use Rattle.cov_claims.specs.declared.evidence.Evidence as claims
use Rattle.cov_evid.specs.FirstFault.{evid_fault}
use Rattle.cov_jobs.specs.Replays.{IsEvidenceText}
use Rattle.cov_evid.specs.declared.fault.EvidRefused.{EvidRefused}
use Rattle.cov_evid.specs.declared.fault.EvidRefused.TheVariants as evidence
use Rattle.cov_top.specs.Run.{IsTextAsked, IsTextEvidenceFault}
use Rattle.cov_top.specs.declared.refusal.NoReport.{NoReport}
use Rattle.cov_top.specs.declared.refusal.NoReport.TheVariants.{Fault, Evidence, Asked, Nodes, Memory}

-- a refusal of a text, as the cause that there is no report
abbrev pub of_refused : Refused → NoReport
of_refused (refused.Fault f) = Fault f
of_refused refused.Memory = Memory

-- a refusal of evidence, as the cause that there is no report
abbrev pub of_evidence : EvidRefused → NoReport
of_evidence (evidence.Fault f) = Evidence f
of_evidence evidence.Memory = Memory

-- why a job has no report on a model
abbrev pub of_job : JobFault → NoReport
of_job (job.Asked a) = Asked a
of_job (job.Nodes full) = Nodes full
of_job job.Memory = Memory

-- why the bytes of evidence give no verdict on a model
abbrev pub IsReplayStop : Model → List ℕ → NoReport → Type 0
IsReplayStop m bytes (Evidence f) = (evid_fault m bytes ≡ Some f) × ((e : claims.Evidence) → IsEvidenceText m bytes e → ⊥)
IsReplayStop m bytes Memory = Unit {0}
IsReplayStop m bytes _ = ⊥

-- why there is no report on a text, and on the bytes of evidence where there are some
abbrev pub IsTextStop : Job → List ℕ → Option (List ℕ) → MeterOf → MeterOf → NoReport → Type 0
IsTextStop j bytes ev old new (Evidence f) = IsTextEvidenceFault bytes ev f × (new ≡ old)
IsTextStop j bytes ev old new (Fault f) = IsTextFault bytes f × (new ≡ old)
IsTextStop j bytes ev old new (Asked a) = IsTextAsked j bytes a × (new ≡ old)
IsTextStop j bytes ev old new (Nodes full) = IsTextShort j bytes old new full
IsTextStop j bytes ev old new Memory = new ≡ old
