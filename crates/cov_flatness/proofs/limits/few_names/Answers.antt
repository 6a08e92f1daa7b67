use Rattle.std.proofs.Common.{arith}
use Rattle.cov_modules.proofs.LawLemmas.{few-names}
use Rattle.cov_flatness.proofs.limits.few_names.Goals as goal

pub returns : goal.returns
returns c = λ p h e. let few = few-names p e in omega (arith, few)
