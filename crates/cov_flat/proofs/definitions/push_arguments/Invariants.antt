use Rattle.std.proofs.Common.{◌≡◌, ◌++◌, take}
use Rattle.std.specs.List.{flat_map, zip}
use Rattle.cov_flat.specs.Reading.{stop_at}
use Rattle.cov_flat.specs.Entries as spec
use Rattle.cov_flat.proofs.definitions.push_arguments.Given as goal

abbrev pub invariant-loop-i : goal.invariant-loop-i
invariant-loop-i l = l.found.items ≡ l.initial.found.items ++ flat_map (spec.argument_in l.at.p.now (stop_at l.at.p.now l.at.number)) (zip l.formals (take l.i l.given-items))
