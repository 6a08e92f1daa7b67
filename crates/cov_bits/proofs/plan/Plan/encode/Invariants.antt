use Rattle.cov_bits.specs.Views.{sizes_of}
use Rattle.cov_bits.proofs.Encoding.{Encoding}
use Rattle.cov_bits.proofs.plan.Plan.encode.Given as goal

-- what is left completes what is found
abbrev pub invariant-loop-i : goal.invariant-loop-i
invariant-loop-i l = Encoding (sizes_of l.part-items) l.s l.i l.code
