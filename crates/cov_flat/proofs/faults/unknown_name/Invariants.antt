use Rattle.std.proofs.Common.{◌≡◌, drop}
use Rattle.std.specs.List.{flat_map}
use Rattle.cov_modules.specs.Names.{first}
use Rattle.cov_modules.specs.NameFaults.{unknown_at}
use Rattle.cov_flat.specs.Reading.{flat_walk}
use Rattle.cov_flat.proofs.faults.unknown_name.Given as goal

-- what is left has the answer of the whole
abbrev pub invariant-loop-number : goal.invariant-loop-number
invariant-loop-number l = first (flat_map (unknown_at l.p) (drop l.number (flat_walk l.p))) ≡ first (flat_map (unknown_at l.p) (flat_walk l.p))
