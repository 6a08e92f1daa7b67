-- The report of a replay.
use Rattle.std.specs.Prelude.{◌≡◌, ◌↔◌, Bool, IsTrue, List, ℕ}
use Rattle.cov_model.specs.declared.model.Model.{Model}
use Rattle.cov_claims.specs.declared.evidence.Evidence.{Evidence}
use Rattle.cov_claims.specs.Valid.{IsValid}
use Rattle.cov_evid.specs.Spelling.{IsProper, IsWithinLimits, spelled}
use Rattle.cov_replay.specs.declared.verdict.Verdict.{Verdict}
use Rattle.cov_replay.specs.Verdicts.{IsVerdict}
use Rattle.cov_report.specs.Verdicts.{verdict_line}

-- the bytes are the text of this evidence, which speaks of the model and is within the limits
pub record IsEvidenceText (m : Model) (bytes : List ℕ) (e : Evidence) : Type 0 where
  pub proper : IsProper m e
  pub within : IsWithinLimits m e
  pub is : bytes ≡ spelled m e

-- the text is the line of the verdict on the evidence, which passes exactly where it is valid
pub record IsJudged (m : Model) (e : Evidence) (passes : Bool) (text : List ℕ) : Type 0 where
  pub verdict : Verdict
  pub judged : IsVerdict m e verdict
  pub line : text ≡ verdict_line verdict
  pub valid : IsTrue passes ↔ IsValid m e

-- the bytes are the text of evidence, which is judged
pub record IsReplayReport (m : Model) (bytes : List ℕ) (passes : Bool) (text : List ℕ) : Type 0 where
  pub evidence : Evidence
  pub read : IsEvidenceText m bytes evidence
  pub judged : IsJudged m evidence passes text
