use Rattle.std.proofs.Common.{rules}
use Rattle.cov_dd.specs.Chains.{bucket_of}
use Rattle.cov_dd.proofs.chains.bucket.Goals as goal

pub returns-clause-bucket : goal.returns-clause-bucket
unfolding bucket_of
returns-clause-bucket c = search rules
