-- What is read of the files of a job.
use Rattle.std.specs.Prelude.{◌≡◌, ℕ, ◌≤◌, ◌<◌, ◌⊎◌, List, length, Option, Some, None}
use Rattle.cov_io.specs.Outside.{Table, IsFile}
use Rattle.cov_evid.specs.Spelling.{longest_text}
use Rattle.cov_top.specs.Transfer.{IsLonger}
use Rattle.cov_top.specs.declared.input.Input.{Input}
use Rattle.cov_top.specs.declared.input.Input.TheVariants.{Whole, TooLong}
use Rattle.cov_top.specs.declared.refusal.Refusal.{Refusal}
use Rattle.cov_top.specs.declared.status.Status.TheVariants.{Read, Memory}

-- the whole file, which is within the limit, or that it has more bytes
abbrev pub IsInputOf : Option Table → List ℕ → ℕ → Input → Type 0
IsInputOf told name limit (Whole text) = IsFile told name (Some text) × (length text ≤ limit)
IsInputOf told name limit TooLong = IsLonger told name limit

-- what is read of the bytes of evidence, where there are some
abbrev pub IsEvidenceInput : Option Input → Option (List ℕ) → Type 0
IsEvidenceInput None None = Unit {0}
IsEvidenceInput None (Some bytes) = ⊥
IsEvidenceInput (Some input) None = ⊥
IsEvidenceInput (Some (Whole text)) (Some bytes) = bytes ≡ text
IsEvidenceInput (Some TooLong) (Some bytes) = longest_text < length bytes

-- the refusal of a file that was not read, for this cause or for want of memory; it tells no place
pub record IsUnreadable (Cause : Type 0) (r : Refusal) : Type 0 where
  pub cause : ((r.status ≡ Read) × Cause) ⊎ (r.status ≡ Memory)
