use Rattle.std.proofs.Common.{◌≡◌, ◌++◌, ◌-◌, ◌≤◌, ◌≤ℤ◌, length}
use Rattle.cov_flat.specs.Entries as spec
use Rattle.cov_flat.proofs.values.range.Given as goal

-- what is found, with what is left, is the whole
abbrev pub invariant-loop-next : goal.invariant-loop-next
invariant-loop-next l =
    (l.fn.low ≤ℤ l.next)
    × (length l.values ≤ 1025)
    × (l.values ++ spec.range_from l.next l.fn.high (1025 - length l.values) ≡ spec.range_from l.fn.low l.fn.high 1025)

abbrev pub decreases-loop-next : goal.decreases-loop-next
decreases-loop-next l = 1025 - length l.values
