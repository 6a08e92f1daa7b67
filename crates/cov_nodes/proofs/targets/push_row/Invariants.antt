use Rattle.std.proofs.Common.{◌≡◌, ◌++◌, take}
use Rattle.cov_nodes.specs.Choices.{result_of}
use Rattle.cov_nodes.specs.Tables.{numbers_of}
use Rattle.cov_nodes.proofs.targets.push_row.Given as goal

abbrev pub invariant-loop-y : goal.invariant-loop-y
invariant-loop-y l = l.targets ≡ l.initial.targets ++ numbers_of (λ y. result_of l.op l.x y) (take l.y-index l.ys) l.results
