use Rattle.std.proofs.Common.{◌≡◌, drop}
use Rattle.std.specs.List.{flat_map}
use Rattle.cov_modules.specs.Names.{first}
use Rattle.cov_modules.specs.NameFaults.{unknown_in_section}
use Rattle.cov_flat.specs.Parts.{here}
use Rattle.cov_flat.proofs.faults.unknown_in_sections.Given as goal

-- what is left has the answer of the whole
abbrev pub invariant-loop-entry : goal.invariant-loop-entry
invariant-loop-entry l =
    first (flat_map (unknown_in_section l.at.p.now (here l.at.p.now l.at.number)) (drop l.entry-index l.entry-items))
    ≡ first (flat_map (unknown_in_section l.at.p.now (here l.at.p.now l.at.number)) (here l.at.p.now l.at.number).from.sections)
