use Rattle.std.proofs.Common.{◌≡◌, drop}
use Rattle.std.specs.List.{list_all}
use Rattle.cov_modules.specs.Modules.{module_names}
use Rattle.cov_modules.specs.Ranks.{never_rises_in, never_rises}
use Rattle.cov_modules.proofs.ranks.never_rises.Given as goal

-- what is left has the answer of the whole
abbrev pub invariant-loop-m : goal.invariant-loop-m
invariant-loop-m l = list_all (never_rises_in (module_names l.p) l.ranks) (drop l.m-index l.p.modules) ≡ never_rises l.p l.ranks
