use Rattle.std.proofs.Common.{◌≡◌, ℕ, [], take, drop, reverse}
use Rattle.cov_flat.specs.Doubles as spec
use Rattle.cov_flat.specs.Tables.{forms_in}
use Rattle.cov_flat.proofs.doubles.double.Given as goal

-- the table tells the assignments that were met, and what is left has the answer of the whole
abbrev pub invariant-loop-a : goal.invariant-loop-a
invariant-loop-a l =
    ((i : ℕ) → forms_in l.table i ≡ spec.forms_of (reverse (take l.a-index l.assigned)) i)
    × (spec.double_number (reverse (take l.a-index l.assigned)) (drop l.a-index l.assigned) ≡ spec.double_number [] l.assigned)
