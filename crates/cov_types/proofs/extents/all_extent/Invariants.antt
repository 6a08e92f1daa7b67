use Rattle.std.proofs.Common.{take}
use Rattle.cov_types.specs.Extents.{IsExtent}
use Rattle.cov_types.proofs.extents.all_extent.Given as goal

-- what is found is that of the expressions so far
abbrev pub invariant-loop-e : goal.invariant-loop-e
invariant-loop-e l = IsExtent l.kinds (take l.e-index l.e-items) l.found
