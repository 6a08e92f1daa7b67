use Rattle.cov_grammar.proofs.ModuleSoundness.{program_sound}
use Rattle.cov_grammar.proofs.laws.sound.Goals as goal

pub returns : goal.returns
returns c = λ xs. program_sound xs
