use Rattle.std.proofs.Common.{◌≡◌, take}
use Rattle.std.specs.List.{flat_map}
use Rattle.cov_flat.specs.Reading.{flat_walk}
use Rattle.cov_flat.specs.Doubles as spec
use Rattle.cov_flat.proofs.doubles.all_assigned.Given as goal

abbrev pub invariant-loop-number : goal.invariant-loop-number
invariant-loop-number l = spec.marks l.p l.found ≡ flat_map (spec.marks_of l.p) (take l.number (flat_walk l.p))
