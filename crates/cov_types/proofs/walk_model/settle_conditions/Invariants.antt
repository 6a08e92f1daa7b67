use Rattle.std.proofs.Common.{◌≡◌, drop, take, map, Some}
use Rattle.cov_model.specs.Settled.{settled, whole_fault}
use Rattle.cov_model.specs.Walk.{first, truth}
use Rattle.std.proofs.Common.{true}
use Rattle.cov_walk.specs.Places.{may_of}
use Rattle.cov_types.proofs.walk_model.settle_conditions.Given as goal

-- what is left has the answer of the whole
abbrev pub invariant-loop-e : goal.invariant-loop-e
invariant-loop-e l = record {
  faults : first (map (whole_fault l.kinds (may_of l.may) (Some truth)) (drop l.e-index l.e-items)) ≡ first (map (whole_fault l.kinds (may_of l.may) (Some truth)) l.e-items);
  settled : l.copies ≡ map (settled l.kinds true) (take l.e-index l.e-items);
}
