use Rattle.std.proofs.Common.{◌≡◌, take}
use Rattle.std.specs.List.{flat_map}
use Rattle.cov_flat.specs.Reading.{flat_walk}
use Rattle.cov_flat.specs.Entries as spec
use Rattle.cov_flat.proofs.definitions.definitions.Given as goal

abbrev pub invariant-loop-number : goal.invariant-loop-number
invariant-loop-number l = l.found.items ≡ flat_map (spec.definitions_of l.p) (take l.number (flat_walk l.p))
