use Rattle.std.proofs.Common.{◌*◌, take}
use Rattle.cov_nodes.specs.Choices.{negated_choices}
use Rattle.cov_expressions.specs.Parts.{AreFamilies, Gathers}
use Rattle.cov_expressions.proofs.operation.put_negatives.Given as goal

-- one set stands behind those of before: the negatives of the choices in the first chunks
abbrev pub invariant-loop-k : goal.invariant-loop-k
invariant-loop-k l = Gathers l.fn.sp l.sp (λ m at f g. AreFamilies l.fn.sp m at l.operand.first l.operand.values.now f)
    l.results (λ f g. negated_choices (take (l.k * l.operand.size) l.operand.values.now) f)
