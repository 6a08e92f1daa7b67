use Rattle.std.proofs.Common.{◌≡◌, ◌-◌}
use Rattle.cov_sym.specs.Rules.{places_from}
use Rattle.cov_sym.proofs.names.names.Given as goal

-- the names so far
abbrev pub invariant-loop-k : goal.invariant-loop-k
invariant-loop-k l = l.slots ≡ places_from l.from (l.k - l.from)
