use Rattle.std.proofs.Common.{◌≡◌, [], drop}
use Rattle.cov_modules.specs.ModuleFaults.{repeated}
use Rattle.cov_modules.proofs.duplicates.repeated.Given as goal

-- what is left has the answer of the whole
abbrev pub invariant-loop-x : goal.invariant-loop-x
invariant-loop-x l = repeated l.before (drop l.x-index l.names) ≡ repeated [] l.names
