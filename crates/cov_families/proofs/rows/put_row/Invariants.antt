use Rattle.cov_families.specs.Steps.{Gathers, in_column}
use Rattle.cov_families.proofs.rows.put_row.Given as goal

-- one set stands behind those of before: the rows of the columns so far
abbrev pub invariant-loop-j : goal.invariant-loop-j
invariant-loop-j l = Gathers l.fn.sp l.sp l.j (in_column l.fn.sp.sets l.rests l.codes l.table l.i)
