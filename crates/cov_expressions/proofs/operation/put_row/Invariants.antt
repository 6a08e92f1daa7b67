use Rattle.std.proofs.Common.{◌*◌, take}
use Rattle.cov_space.specs.Sets.{set_at}
use Rattle.cov_nodes.specs.Choices.{IsFamily, operated_choices}
use Rattle.cov_expressions.specs.Parts.{AreFamilies, Gathers}
use Rattle.cov_expressions.proofs.operation.put_row.Given as goal

-- one set stands behind those of before: what the operator makes with the first chunks on the right
abbrev pub invariant-loop-k : goal.invariant-loop-k
invariant-loop-k l = Gathers l.fn.sp l.sp (λ m at f g. IsFamily l.fn.sp.levels m at l.xs f (set_at l.fn.sp.sets l.left) × AreFamilies l.fn.sp m at l.right.first l.right.values.now g)
    l.results (λ f g. operated_choices l.fn.op l.xs (take (l.k * l.right.size) l.right.values.now) f g)
