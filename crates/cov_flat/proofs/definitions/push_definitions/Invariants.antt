use Rattle.std.proofs.Common.{◌≡◌, ◌++◌, take}
use Rattle.std.specs.List.{flat_map}
use Rattle.cov_flat.specs.Parts.{here}
use Rattle.cov_flat.specs.Entries as spec
use Rattle.cov_flat.proofs.definitions.push_definitions.Given as goal

abbrev pub invariant-loop-entry : goal.invariant-loop-entry
invariant-loop-entry l = l.found.items ≡ l.initial.found.items ++ flat_map (spec.definitions_in l.at.p.now (here l.at.p.now l.at.number)) (take l.entry-index l.entry-items)
