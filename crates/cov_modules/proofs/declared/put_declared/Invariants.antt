use Rattle.std.proofs.Common.{◌≡◌, ◌++◌, drop}
use Rattle.std.specs.List.{flat_map}
use Rattle.cov_modules.specs.Modules.{declared}
use Rattle.cov_modules.proofs.declared.put_declared.Given as goal

-- what is left completes what is found
abbrev pub invariant-loop-s : goal.invariant-loop-s
invariant-loop-s l = l.names ++ flat_map declared (drop l.s-index l.sections) ≡ l.fn.names ++ flat_map declared l.sections
