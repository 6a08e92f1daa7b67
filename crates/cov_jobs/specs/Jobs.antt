-- The report of a job on a model.
use Rattle.std.specs.Prelude.{◌≡◌, ℕ, Bool, true, List}
use Rattle.cov_model.specs.declared.model.Model.{Model}
use Rattle.cov_words.specs.declared.job.Job.{Job}
use Rattle.cov_words.specs.declared.job.Job.TheVariants.{Init, Reach, Check, Vacuity, Cover, Replay}
use Rattle.cov_coverage.specs.declared.names.NamedSignal.{NamedSignal}
use Rattle.cov_coverage.specs.Names.{AreNamed}
use Rattle.cov_jobs.specs.declared.detail.Detail.TheVariants as detail
use Rattle.cov_jobs.specs.Report.{init_text, IsReachReport}
use Rattle.cov_jobs.specs.Specifications.{IsSpecificationReport}

-- the whole report of a job on a model, and whether what it judges passes; a replay has one on its evidence besides
abbrev pub IsReportOn : Job → Model → Bool → List ℕ → Type 0
IsReportOn (Init name opts) m passes text = (passes ≡ true) × (text ≡ init_text opts.cubes m)
IsReportOn (Reach name opts) m passes text = (passes ≡ true) × IsReachReport opts.cubes m text
IsReportOn (Check name opts) m passes text = IsSpecificationReport detail.Verdict m passes text
IsReportOn (Vacuity name opts) m passes text = IsSpecificationReport detail.Occurrences m passes text
IsReportOn (Cover name names opts) m passes text = (signals : List NamedSignal) × AreNamed m names signals × IsSpecificationReport (detail.Coverage signals opts.cubes) m passes text
IsReportOn (Replay name evidence) m passes text = ⊥
