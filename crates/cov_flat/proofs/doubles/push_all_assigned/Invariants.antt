use Rattle.std.proofs.Common.{◌≡◌, ◌++◌, take}
use Rattle.std.specs.List.{flat_map}
use Rattle.cov_flat.specs.Parts.{here}
use Rattle.cov_flat.specs.Doubles as spec
use Rattle.cov_flat.proofs.doubles.push_all_assigned.Given as goal

abbrev pub invariant-loop-entry : goal.invariant-loop-entry
invariant-loop-entry l = spec.marks l.at.p.now l.found ≡ spec.marks l.at.p.now l.initial.found ++ flat_map (spec.marks_in l.at.p.now (here l.at.p.now l.at.number)) (take l.entry-index l.entry-items)
