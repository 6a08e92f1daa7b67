use Rattle.std.proofs.Common.{◌≡◌, take}
use Rattle.cov_nodes.specs.Tables.{numbers_of_pairs}
use Rattle.cov_nodes.proofs.targets.table_of.Given as goal

abbrev pub invariant-loop-x : goal.invariant-loop-x
invariant-loop-x l = l.targets ≡ numbers_of_pairs l.op (take l.x-index l.xs) l.ys l.results
