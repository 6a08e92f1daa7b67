use Rattle.std.proofs.Common.{◌≡◌, IsTrue, map, take}
use Rattle.cov_model.specs.Settled.{settled}
use Rattle.cov_walk.specs.Parts.{some_boolean, some_body_boolean, settled_branch}
use Rattle.cov_walk.proofs.settling.+settle.Given as goal

-- where the place is Boolean if a member is, what stands behind is settled
abbrev pub invariant-settle_all-loop-e : goal.invariant-settle_all-loop-e
invariant-settle_all-loop-e l = (IsTrue (some_boolean l.ks l.items) → IsTrue l.in_truth) → l.settled ≡ map (settled l.ks l.in_truth) (take l.e-index l.e-items)

abbrev pub invariant-settle_branches-loop-b : goal.invariant-settle_branches-loop-b
invariant-settle_branches-loop-b l = (IsTrue (some_body_boolean l.ks l.branches) → IsTrue l.in_truth) → l.settled ≡ map (settled_branch l.ks l.in_truth) (take l.b-index l.b-items)
