use Rattle.std.proofs.Common.{rules}
use Rattle.cov_dd.specs.Chains.{hash_of}
use Rattle.cov_dd.proofs.chains.hash.Goals as goal

pub returns-clause-hash : goal.returns-clause-hash
unfolding hash_of
returns-clause-hash c = search rules
