use Rattle.std.proofs.Common.{◌*◌, take}
use Rattle.cov_nodes.specs.Choices.{operated_choices}
use Rattle.cov_expressions.specs.Parts.{AreFamilies, Gathers}
use Rattle.cov_expressions.proofs.operation.put_rows.Given as goal

-- one set stands behind those of before: what the operator makes with the first chunks on the left
abbrev pub invariant-loop-k : goal.invariant-loop-k
invariant-loop-k l = Gathers l.fn.sp l.sp (λ m at f g. AreFamilies l.fn.sp m at l.left.first l.left.values.now f × AreFamilies l.fn.sp m at l.right.first l.right.values.now g)
    l.results (λ f g. operated_choices l.fn.op (take (l.k * l.left.size) l.left.values.now) l.right.values.now f g)
