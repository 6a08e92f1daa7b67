use Rattle.cov_ranges.proofs.Listed.{lists_all}
use Rattle.cov_ranges.proofs.laws.all_listed.Goals as goal

pub returns : goal.returns
returns c = λ m w e x. lists_all m w e x
