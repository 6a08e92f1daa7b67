use Rattle.std.proofs.Common.{◌≡◌, map, take}
use Rattle.cov_model.specs.Kinds.{kind_of_values}
use Rattle.cov_model.specs.declared.model.Var.{Var}
use Rattle.cov_kinds.specs.Seen.{seen}
use Rattle.cov_kinds.proofs.table.KindTable.of_variables.Given as goal

abbrev pub invariant-loop-x : goal.invariant-loop-x
invariant-loop-x l = map seen l.kinds ≡ map (λ (x : Var). kind_of_values x.values) (take l.x-index l.x-items)
