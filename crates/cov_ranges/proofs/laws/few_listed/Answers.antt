use Rattle.cov_ranges.proofs.Listed.{lists_few}
use Rattle.cov_ranges.proofs.laws.few_listed.Goals as goal

pub returns : goal.returns
returns c = λ m w e x. lists_few m w e x
