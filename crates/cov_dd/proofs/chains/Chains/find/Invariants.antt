use Rattle.std.proofs.Common.{◌≡◌, ℕ, ◌<◌, ◌≤◌, length}
use Rattle.cov_dd.specs.Nodes.{node_at}
use Rattle.cov_dd.specs.Chains.{OnChain}
use Rattle.cov_dd.proofs.chains.Chains.find.Given as goal

abbrev pub invariant-loop-place : goal.invariant-loop-place
invariant-loop-place l = record {
  within : l.place ≤ length l.nodes;
  ahead : (k : ℕ) → k < length l.nodes → node_at l.nodes k ≡ l.node → OnChain l.self-inside.nexts.items l.place k;
}

abbrev pub decreases-loop-place : goal.decreases-loop-place
decreases-loop-place l = l.place
