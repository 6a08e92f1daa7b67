use Rattle.std.proofs.Common.{◌≡◌, ◌≢◌, ℕ, ◌<◌, true, false, get_or}
use Rattle.cov_dd.specs.Nodes.{node_at}
use Rattle.cov_dd.proofs.collection.level_reached.Given as goal

abbrev pub invariant-loop-i : goal.invariant-loop-i
invariant-loop-i l = (k : ℕ) → k < l.i → get_or l.marks k false ≡ true → (node_at l.nodes k).level ≢ l.level
