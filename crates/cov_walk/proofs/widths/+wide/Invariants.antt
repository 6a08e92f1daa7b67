use Rattle.std.proofs.Common.{◌≡◌, ◌≤◌, max, map, take, drop}
use Rattle.cov_model.specs.Walk.{judged}
use Rattle.cov_walk.specs.Gathered.{HasMembers, HasArms, members_fault, arms_fault}
use Rattle.cov_walk.specs.Parts.{judged_branch}
use Rattle.cov_walk.specs.Places.{may_of}
use Rattle.cov_walk.specs.Wide.{widest_member, widest_arm}
use Rattle.cov_walk.proofs.widths.+wide.Given as goal

-- what stands behind is found, and what is left has the first fault of the whole and completes its width
abbrev pub invariant-wide_members-loop-e : goal.invariant-wide_members-loop-e
invariant-wide_members-loop-e l = record {
  found : HasMembers (map (judged l.ks) (take l.e-index l.e-items)) l.members;
  left : members_fault (may_of l.may) (map (judged l.ks) (drop l.e-index l.e-items)) ≡ members_fault (may_of l.may) (map (judged l.ks) l.e-items);
  width : max l.widest (widest_member l.ks (drop l.e-index l.e-items)) ≡ widest_member l.ks l.e-items;
  few : l.widest ≤ 1024;
}

abbrev pub invariant-wide_branches-loop-b : goal.invariant-wide_branches-loop-b
invariant-wide_branches-loop-b l = record {
  found : HasArms (map (judged_branch l.ks) (take l.b-index l.b-items)) l.arms;
  left : arms_fault (may_of l.may) (map (judged_branch l.ks) (drop l.b-index l.b-items)) ≡ arms_fault (may_of l.may) (map (judged_branch l.ks) l.b-items);
  width : max l.widest (widest_arm l.ks (drop l.b-index l.b-items)) ≡ widest_arm l.ks l.b-items;
  few : l.widest ≤ 1024;
}
