use Rattle.std.proofs.Common.{inl, inr, arith}
use Rattle.std.proofs.lemmas.Int.{ints}
use Rattle.cov_nodes.proofs.Rows.{in_row, out_of_row}
use Rattle.cov_nodes.proofs.targets.place_in_row.Goals as goal
use Rattle.cov_nodes.proofs.targets.place_in_row.Goals.{else-low-n-via-then-low-n+else-n-low, else-low-n-via-else-low-n}

pub returns-then-n-low : goal.returns-then-n-low
returns-then-n-low c = in_row c.args.xs.now c.args.low c.args.n _ c.requires.once c.requires.row (omega (arith, ints)) (omega (arith, ints))

pub returns-else-low-n : goal.returns-else-low-n
returns-else-low-n c = out_of_row c.args.xs.now c.args.low c.args.n c.requires.row (elim c.else-low-n.branch [
  | else-low-n-via-then-low-n+else-n-low w ↦ inr (omega (arith, ints))
  | else-low-n-via-else-low-n w ↦ inl (omega (arith, ints))
])
