use Rattle.std.proofs.Common.{◌≡◌, drop, find}
use Rattle.cov_modules.specs.Modules.{is_main, main_of}
use Rattle.cov_modules.proofs.main_module.main_place.Given as goal

-- what is left has the answer of the whole
abbrev pub invariant-loop-i : goal.invariant-loop-i
invariant-loop-i l = find (is_main l.p) (drop l.i l.p.modules) ≡ main_of l.p
