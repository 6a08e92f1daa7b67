use Rattle.std.proofs.Common.{◌≡◌, take}
use Rattle.cov_dd.specs.Chains.{IsChained}
use Rattle.cov_dd.proofs.chains.Chains.rebuild.Given as goal

abbrev pub invariant-loop-node : goal.invariant-loop-node
invariant-loop-node l = record {
  chained : IsChained (take l.node-index l.nodes) l.self;
  room : l.self.room ≡ l.fn.self.room;
}
