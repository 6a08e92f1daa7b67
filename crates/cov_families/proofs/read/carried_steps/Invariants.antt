use Rattle.cov_space.specs.Sets.{set_at}
use Rattle.cov_families.specs.Steps.{Gathers, carries}
use Rattle.cov_families.proofs.read.carried_steps.Given as goal

-- one set stands behind those of before: the rows of the numbers so far
abbrev pub invariant-loop-i : goal.invariant-loop-i
invariant-loop-i l = Gathers l.fn.sp l.sp l.i (carries l.from l.to l.targets (set_at l.fn.sp.sets l.set))
