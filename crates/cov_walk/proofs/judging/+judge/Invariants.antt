use Rattle.std.proofs.Common.{◌≡◌, map, take, drop}
use Rattle.cov_model.specs.Walk.{judged}
use Rattle.cov_walk.specs.Gathered.{HasMembers, HasArms, members_fault, arms_fault}
use Rattle.cov_walk.specs.Parts.{judged_branch}
use Rattle.cov_walk.specs.Places.{may_of}
use Rattle.cov_walk.proofs.judging.+judge.Given as goal

-- what stands behind is found, and what is left has the first fault of the whole
abbrev pub invariant-judge_members-loop-e : goal.invariant-judge_members-loop-e
invariant-judge_members-loop-e l = record {
  found : HasMembers (map (judged l.ks) (take l.e-index l.e-items)) l.members;
  left : members_fault (may_of l.may) (map (judged l.ks) (drop l.e-index l.e-items)) ≡ members_fault (may_of l.may) (map (judged l.ks) l.e-items);
}

abbrev pub invariant-judge_branches-loop-b : goal.invariant-judge_branches-loop-b
invariant-judge_branches-loop-b l = record {
  found : HasArms (map (judged_branch l.ks) (take l.b-index l.b-items)) l.arms;
  left : arms_fault (may_of l.may) (map (judged_branch l.ks) (drop l.b-index l.b-items)) ≡ arms_fault (may_of l.may) (map (judged_branch l.ks) l.b-items);
}
