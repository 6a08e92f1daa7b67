use Rattle.std.proofs.Common.{◌≡◌, ◌≤◌, ◌<◌, ℕ, false, drop, length, get_or}
use Rattle.cov_replay.specs.Walks.{walks}
use Rattle.cov_replay.proofs.scan.scan.Given as goal

abbrev pub invariant-loop-p : goal.invariant-loop-p
invariant-loop-p l = record {
  found : l.found ≡ walks (drop l.p l.initial.ends) (drop l.p l.stays) l.initial.found;
  before : (k : ℕ) → k < l.p → get_or l.ends k false ≡ get_or l.initial.ends k false;
  done : (k : ℕ) → l.p ≤ k → k < length l.initial.ends → get_or l.ends k false ≡ walks (drop k l.initial.ends) (drop k l.stays) l.initial.found;
}
