use Rattle.std.proofs.Common.{◌≡◌, map, drop}
use Rattle.cov_modules.specs.Names.{first}
use Rattle.cov_modules.specs.NameFaults.{unknown_argument}
use Rattle.cov_flat.specs.Reading.{stop_at}
use Rattle.cov_flat.proofs.faults.unknown_in_arguments.Given as goal

-- what is left has the answer of the whole
abbrev pub invariant-loop-given : goal.invariant-loop-given
invariant-loop-given l =
    first (map (unknown_argument l.at.p.now (stop_at l.at.p.now l.at.number).caller) (drop l.given-index l.given-items))
    ≡ first (map (unknown_argument l.at.p.now (stop_at l.at.p.now l.at.number).caller) (stop_at l.at.p.now l.at.number).given)
