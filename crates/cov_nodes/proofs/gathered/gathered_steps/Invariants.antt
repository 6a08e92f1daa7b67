use Rattle.cov_families.specs.Steps.{Gathers}
use Rattle.cov_nodes.specs.Chunks.{in_chunk}
use Rattle.cov_nodes.proofs.gathered.gathered_steps.Given as goal

-- one set stands behind those of before: that of the chunks so far
abbrev pub invariant-loop-k : goal.invariant-loop-k
invariant-loop-k l = Gathers l.fn.sp l.sp l.k (in_chunk l.fn.sp l.first l.values l.xs)
