use Rattle.std.proofs.Common.{◌≡◌, drop, length}
use Rattle.cov_model.specs.Trees as spec
use Rattle.cov_walk.proofs.trees.+same.Given as goal

abbrev pub invariant-same_trees-loop-i : goal.invariant-same_trees-loop-i
invariant-same_trees-loop-i l = (spec.same_trees (drop l.i l.es) (drop l.i l.fs) ≡ spec.same_trees l.es l.fs) × (length l.es ≡ length l.fs)

abbrev pub invariant-same_branches-loop-i : goal.invariant-same_branches-loop-i
invariant-same_branches-loop-i l = (spec.same_branches (drop l.i l.bs) (drop l.i l.cs) ≡ spec.same_branches l.bs l.cs) × (length l.bs ≡ length l.cs)
