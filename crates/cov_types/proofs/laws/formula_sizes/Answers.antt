use Rattle.cov_types.proofs.LoweredSizes.{lowered_formula}
use Rattle.cov_types.proofs.laws.formula_sizes.Goals as goal

pub returns : goal.returns
returns c = lowered_formula
