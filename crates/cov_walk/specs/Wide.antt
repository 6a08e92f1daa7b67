-- What a walk answers beside the greatest number of values of the own kinds that it passes.
use Rattle.std.specs.Prelude.{◌≡◌, ℕ, List, max, map, None, Result, Ok, Err}
use Rattle.cov_syntax.specs.declared.fault.Refused.{Refused}
use Rattle.cov_syntax.specs.declared.tree.Expr.{Expr}
use Rattle.cov_syntax.specs.declared.tree.Branch.{Branch}
use Rattle.cov_model.specs.Flat.{greatest}
use Rattle.cov_model.specs.Kinds.{Kinds}
use Rattle.cov_model.specs.Walk.{Judged, May}
use Rattle.cov_walk.specs.declared.wide.Wide.{Wide}
use Rattle.cov_walk.specs.declared.wide.WideMembers.{WideMembers}
use Rattle.cov_walk.specs.declared.wide.WideArms.{WideArms}
use Rattle.cov_walk.specs.Found.{TellsFault, IsFound}
use Rattle.cov_walk.specs.Gathered.{HasMembers, HasArms, members_fault, arms_fault}
use Rattle.cov_walk.specs.Widest.{widest}

-- what is found, with so many values at most, or the first fault
abbrev pub AnswersWide : Judged → ℕ → May → Result Wide Refused → Type 0
AnswersWide j w may (Ok x) = IsFound j may x.found × (x.widest ≡ w)
AnswersWide j w may (Err refused) = TellsFault (j.fault may) refused

-- the greatest number of values at members
abbrev pub widest_member : Kinds → List Expr → ℕ
widest_member ks es = greatest (map (widest ks) es)

-- the greatest number of values at a guard and at a body
abbrev pub widest_branch : Kinds → Branch → ℕ
widest_branch ks b = max (widest ks b.guard) (widest ks b.body)

-- the greatest number of values at branches
abbrev pub widest_arm : Kinds → List Branch → ℕ
widest_arm ks bs = greatest (map (widest_branch ks) bs)

-- the members, with so many values at most, or the first fault
abbrev pub AnswersWideMembers : List Judged → ℕ → May → Result WideMembers Refused → Type 0
AnswersWideMembers js w may (Ok m) = HasMembers js m.members × (members_fault may js ≡ None) × (m.widest ≡ w)
AnswersWideMembers js w may (Err refused) = TellsFault (members_fault may js) refused

-- the branches, with so many values at most, or the first fault
abbrev pub AnswersWideArms : List (Judged × Judged) → ℕ → May → Result WideArms Refused → Type 0
AnswersWideArms bs w may (Ok a) = HasArms bs a.arms × (arms_fault may bs ≡ None) × (a.widest ≡ w)
AnswersWideArms bs w may (Err refused) = TellsFault (arms_fault may bs) refused
