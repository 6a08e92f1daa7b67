use Rattle.std.proofs.Common.{◌≡◌, ◌++◌, take}
use Rattle.std.specs.List.{flat_map}
use Rattle.cov_flat.specs.Parts.{here}
use Rattle.cov_flat.specs.Entries as spec
use Rattle.cov_flat.proofs.assigns.push_assigns.Given as goal

abbrev pub invariant-loop-entry : goal.invariant-loop-entry
invariant-loop-entry l = l.found ≡ l.initial.found ++ flat_map (spec.assigns_in l.at.p.now (here l.at.p.now l.at.number) l.form) (take l.entry-index l.entry-items)
