use Rattle.cov_programs.proofs.ProgramLemmas.{IsFlattenable-read}
use Rattle.cov_programs.proofs.laws.flattenable.Goals as goal

pub returns : goal.returns
returns c = λ text found p e reads. IsFlattenable-read text found p e reads
