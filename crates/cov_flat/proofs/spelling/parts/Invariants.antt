use Rattle.std.proofs.Common.{◌≡◌, ◌++◌, ◌∷◌, [], reverse}
use Rattle.cov_flat.specs.Reading.{IsReader}
use Rattle.cov_flat.specs.Parts.{here}
use Rattle.cov_flat.proofs.spelling.parts.Given as goal

-- the name of the instance that is reached, with the parts found, is the whole name
abbrev pub invariant-loop-number : goal.invariant-loop-number
invariant-loop-number l =
    IsReader l.at.p.now l.at.scopes.now l.number
    × ((here l.at.p.now l.number).name ++ reverse l.parts ≡ (here l.at.p.now l.at.number).name ++ l.own ∷ [])

abbrev pub decreases-loop-number : goal.decreases-loop-number
decreases-loop-number l = l.number
