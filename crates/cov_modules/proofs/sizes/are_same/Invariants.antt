use Rattle.std.proofs.Common.{◌≡◌, take}
use Rattle.cov_modules.proofs.sizes.are_same.Given as goal

-- the fronts are the same
abbrev pub invariant-loop-i : goal.invariant-loop-i
invariant-loop-i l = take l.i l.sizes ≡ take l.i l.others
