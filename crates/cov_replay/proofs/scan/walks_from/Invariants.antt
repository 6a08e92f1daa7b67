use Rattle.std.proofs.Common.{◌≡◌, ◌≤◌, drop}
use Rattle.cov_replay.specs.Walks.{walks}
use Rattle.cov_replay.proofs.scan.walks_from.Given as goal

abbrev pub invariant-loop-p : goal.invariant-loop-p
invariant-loop-p l = record {
  found : l.found ≡ walks (drop l.p l.ends) (drop l.p l.stays) l.after;
  above : l.first ≤ l.p;
}
