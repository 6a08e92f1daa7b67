use Rattle.cov_grammar.proofs.ModuleCompleteness.{program_answers}
use Rattle.cov_grammar.proofs.laws.complete.Goals as goal

pub returns : goal.returns
returns c = λ xs trees p. program_answers p
