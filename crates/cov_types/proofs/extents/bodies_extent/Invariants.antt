use Rattle.std.proofs.Common.{map, take}
use Rattle.cov_model.specs.declared.model.Define.{Define}
use Rattle.cov_types.specs.Extents.{IsExtent}
use Rattle.cov_types.proofs.extents.bodies_extent.Given as goal

-- what is found is that of the expressions so far
abbrev pub invariant-loop-d : goal.invariant-loop-d
invariant-loop-d l = IsExtent l.kinds (map (λ (d : Define). d.body) (take l.d-index l.d-items)) l.found
