use Rattle.cov_grammar.proofs.ModuleCompleteness.{one_program}
use Rattle.cov_grammar.proofs.laws.unique.Goals as goal

pub returns : goal.returns
returns c = λ text tokens a b p q. one_program p q
