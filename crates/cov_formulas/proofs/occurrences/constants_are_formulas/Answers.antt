use Rattle.cov_formulas.proofs.ConstantAtoms.{constant_of, constant_over}
use Rattle.cov_formulas.proofs.occurrences.constants_are_formulas.Goals as goal

pub returns-clause-of : goal.returns-clause-of
returns-clause-of c = λ m truth. constant_of m truth

pub returns-clause-over : goal.returns-clause-over
returns-clause-over c = λ m truth. constant_over m truth
