use Rattle.std.proofs.Common.{◌⊎◌}
use Rattle.cov_plain.specs.Sets.{In, IsSetOf}
use Rattle.cov_plain.proofs.booleans.either.Given as goal

abbrev pub invariant-loop-v : goal.invariant-loop-v
invariant-loop-v l = IsSetOf l.v l.result.items (λ v. In l.left v ⊎ In l.right v)
