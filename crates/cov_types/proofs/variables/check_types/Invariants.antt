use Rattle.std.proofs.Common.{◌≡◌, drop, map}
use Rattle.cov_model.specs.Types.{type_fault}
use Rattle.cov_model.specs.Walk.{first}
use Rattle.cov_types.proofs.variables.check_types.Given as goal

-- what is left has the answer of the whole
abbrev pub invariant-loop-x : goal.invariant-loop-x
invariant-loop-x l = first (map type_fault (drop l.x-index l.vars)) ≡ first (map type_fault l.vars)
