use Rattle.std.proofs.Common.{◌≡◌, drop, take, map}
use Rattle.cov_model.specs.Settled.{assign_fault, settled_assign}
use Rattle.cov_model.specs.Walk.{first}
use Rattle.cov_walk.specs.Places.{may_of}
use Rattle.cov_types.proofs.walk_model.settle_assigns.Given as goal

-- what is left has the answer of the whole
abbrev pub invariant-loop-a : goal.invariant-loop-a
invariant-loop-a l = record {
  faults : first (map (assign_fault l.kinds (may_of l.may)) (drop l.a-index l.a-items)) ≡ first (map (assign_fault l.kinds (may_of l.may)) l.a-items);
  settled : l.copies ≡ map (settled_assign l.kinds) (take l.a-index l.a-items);
}
