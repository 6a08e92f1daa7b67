use Rattle.cov_dd.proofs.SizeLemmas as size
use Rattle.cov_dd.proofs.laws.size_is_need.Goals as goal

pub returns : goal.returns
returns c = size.size_is_need
