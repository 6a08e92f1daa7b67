use Rattle.std.proofs.Common.{◌≡◌, ◌++◌, drop}
use Rattle.cov_modules.specs.Sizes as spec
use Rattle.cov_modules.proofs.sizes.all_grown.Given as goal

-- what is left completes what is counted
abbrev pub invariant-loop-i : goal.invariant-loop-i
invariant-loop-i l = l.after ++ spec.all_grown l.sizes (drop l.i l.wholes) (drop l.i l.children) ≡ spec.all_grown l.sizes l.wholes l.children
