use Rattle.cov_space.specs.Sets.{set_at}
use Rattle.cov_families.specs.Steps.{Gathers, in_row}
use Rattle.cov_families.proofs.rows.put_rows.Given as goal

-- one set stands behind those of before: the rows that pass for a row of the table so far
abbrev pub invariant-loop-i : goal.invariant-loop-i
invariant-loop-i l = Gathers l.fn.sp l.sp l.i (in_row l.fn.sp.sets l.rests l.codes l.table (set_at l.fn.sp.sets l.a))
