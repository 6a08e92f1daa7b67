use Rattle.std.proofs.Common.{map, take}
use Rattle.cov_model.specs.declared.model.Assign.{Assign}
use Rattle.cov_types.specs.Extents.{IsExtent}
use Rattle.cov_types.proofs.extents.sides_extent.Given as goal

-- what is found is that of the expressions so far
abbrev pub invariant-loop-a : goal.invariant-loop-a
invariant-loop-a l = IsExtent l.kinds (map (λ (a : Assign). a.body) (take l.a-index l.a-items)) l.found
