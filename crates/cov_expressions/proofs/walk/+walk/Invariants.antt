use Rattle.std.proofs.Common.{◌+◌, ◌*◌, ◌≤◌, max, length, take, drop}
use Rattle.cov_model.specs.Flat.{depth}
use Rattle.cov_model.specs.Meaning.{allows}
use Rattle.cov_types.specs.Depths.{all_branch_depth, all_depth}
use Rattle.cov_expressions.specs.Parts.{HasFirst, HasOne, any_choice, arm_choice}
use Rattle.cov_expressions.proofs.walk.+walk.Given as goal

abbrev pub decreases-put_tree : goal.decreases-put_tree
decreases-put_tree l = 8 * depth l.e.now

abbrev pub decreases-put_chunks : goal.decreases-put_chunks
decreases-put_chunks l = 8 * depth l.e.now + 1

abbrev pub decreases-put_one : goal.decreases-put_one
decreases-put_one l = 8 * depth l.a.now + 7

abbrev pub decreases-put_two : goal.decreases-put_two
decreases-put_two l = 8 * max (depth l.a.now) (depth l.b.now) + 7

abbrev pub decreases-put_operation : goal.decreases-put_operation
decreases-put_operation l = 8 * max (depth l.a.now) (depth l.b.now) + 6

abbrev pub decreases-put_logical : goal.decreases-put_logical
decreases-put_logical l = 8 * max (depth l.a.now) (depth l.b.now) + 5

abbrev pub decreases-put_members : goal.decreases-put_members
decreases-put_members l = 8 * all_depth l.items.now + 7

abbrev pub decreases-put_branches : goal.decreases-put_branches
decreases-put_branches l = 8 * all_branch_depth l.branches.now + 7

-- the sets of the first chunks stand behind those of before
abbrev pub invariant-put_chunks-loop-k : goal.invariant-put_chunks-loop-k
invariant-put_chunks-loop-k l = HasFirst l.fn.sp l.sp l.scope.m.now l.scope.at l.chunks.size l.xs l.k (allows l.e)

-- one set stands behind those of before: the choices of the first members
abbrev pub invariant-put_members-loop-e : goal.invariant-put_members-loop-e
invariant-put_members-loop-e l = HasOne l.fn.sp l.sp l.scope.m.now l.scope.at l.xs (any_choice (take l.e-index l.e-items))

-- one set stands behind those of before: the choices of the last branches
abbrev pub invariant-put_branches-loop-i : goal.invariant-put_branches-loop-i
invariant-put_branches-loop-i l = record {
  within : l.i ≤ length l.branches;
  one : HasOne l.fn.sp l.sp l.scope.m.now l.scope.at l.xs (arm_choice (drop l.i l.branches));
}

abbrev pub decreases-put_branches-loop-i : goal.decreases-put_branches-loop-i
decreases-put_branches-loop-i l = l.i
