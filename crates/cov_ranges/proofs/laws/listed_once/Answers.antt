use Rattle.cov_ranges.proofs.Listed.{lists_once}
use Rattle.cov_ranges.proofs.laws.listed_once.Goals as goal

pub returns : goal.returns
returns c = λ m w e. lists_once m w e
