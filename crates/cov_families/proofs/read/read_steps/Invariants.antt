use Rattle.cov_families.specs.Steps.{Gathers, reads}
use Rattle.cov_families.proofs.read.read_steps.Given as goal

-- one set stands behind those of before: the rows of the numbers so far
abbrev pub invariant-loop-i : goal.invariant-loop-i
invariant-loop-i l = Gathers l.fn.sp l.sp l.i (reads l.from l.to l.targets)
