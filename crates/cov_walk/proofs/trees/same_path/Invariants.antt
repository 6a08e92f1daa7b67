use Rattle.std.proofs.Common.{◌≡◌, drop, length}
use Rattle.cov_model.specs.Trees as spec
use Rattle.cov_walk.proofs.trees.same_path.Given as goal

abbrev pub invariant-loop-i : goal.invariant-loop-i
invariant-loop-i l = (spec.same_path (drop l.i l.p) (drop l.i l.q) ≡ spec.same_path l.p l.q) × (length l.p ≡ length l.q)
