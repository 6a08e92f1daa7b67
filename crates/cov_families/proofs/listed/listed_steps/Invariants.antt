use Rattle.std.proofs.Common.{◌&&◌, ◌==◌, get_or, false}
use Rattle.cov_fields.specs.Fields.{held}
use Rattle.cov_families.specs.Steps.{Gathers}
use Rattle.cov_families.proofs.listed.listed_steps.Given as goal

-- one set stands behind those of before: the rows of the picked numbers so far
abbrev pub invariant-loop-i : goal.invariant-loop-i
invariant-loop-i l = Gathers l.fn.sp l.sp l.i (λ row k. held l.field row == k && get_or l.picks k false)
