use Rattle.std.proofs.Common.{◌≡◌, drop}
use Rattle.std.specs.List.{flat_map, list_all}
use Rattle.cov_modules.specs.Modules.{instance_of}
use Rattle.cov_modules.specs.Ranks.{is_at_most, never_rises_in}
use Rattle.cov_modules.proofs.ranks.never_rises_in.Given as goal

-- what is left has the answer of the whole
abbrev pub invariant-loop-s : goal.invariant-loop-s
invariant-loop-s l = list_all (is_at_most l.modules l.ranks l.rank) (flat_map instance_of (drop l.s-index l.m.sections)) ≡ never_rises_in l.modules l.ranks l.m
