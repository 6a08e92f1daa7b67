use Rattle.std.proofs.Common.{◌≡◌}
use Rattle.cov_dd.specs.Nodes.{den, IsLive, rank}
use Rattle.cov_dd.proofs.store.Store.at.Given as goal

abbrev pub invariant-loop-place : goal.invariant-loop-place
invariant-loop-place l = record {
  live : IsLive l.self-inside.nodes.items l.place;
  same : den l.self-inside.nodes.items l.place l.bits ≡ den l.self-inside.nodes.items l.fn.f l.bits;
}

abbrev pub decreases-loop-place : goal.decreases-loop-place
decreases-loop-place l = rank l.place
