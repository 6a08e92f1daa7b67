use Rattle.std.proofs.Common.{◌≡◌, drop}
use Rattle.cov_modules.specs.Names.{first}
use Rattle.cov_modules.specs.ModuleFaults.{duplicate, duplicate_name}
use Rattle.cov_modules.proofs.duplicates.duplicate_name.Given as goal

-- what is left has the answer of the whole
abbrev pub invariant-loop-m : goal.invariant-loop-m
invariant-loop-m l = first (duplicate l.before (drop l.m-index l.p.modules)) ≡ duplicate_name l.p
