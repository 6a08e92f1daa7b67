-- What a walk finds at the members of a set, and at the branches of a case.
use Rattle.std.specs.Prelude.{◌≡◌, Bool, true, false, ◌||◌, if◌then◌else◌, List, map, Option, None, Result, Ok, Err}
use Rattle.cov_syntax.specs.declared.tree.Span.{Span}
use Rattle.cov_syntax.specs.declared.fault.ModelFault.{ModelFault}
use Rattle.cov_syntax.specs.declared.fault.Refused.{Refused}
use Rattle.cov_model.specs.Walk as walk
use Rattle.cov_model.specs.Walk.{Judged, May, first, bodies, in_order, plain_may, part_may}
use Rattle.cov_kinds.specs.Seen.{seen}
use Rattle.cov_walk.specs.declared.members.Members.{Members}
use Rattle.cov_walk.specs.declared.arms.Arms.{Arms}
use Rattle.cov_walk.specs.Misfits.{HasMisfits}
use Rattle.cov_walk.specs.Found.{TellsFault}

-- the first that does not fit, in the order of the parts
abbrev pub first_misfit : List Judged → walk.Asks → Option Span
first_misfit js asks = first (map (λ (j : Judged). j.misfit asks) js)

-- the first fault of the members
abbrev pub members_fault : May → List Judged → Option ModelFault
members_fault may js = first (map (λ (j : Judged). j.fault may) js)

-- the own kinds of the members, and the first that does not fit
pub record HasMembers (js : List Judged) (m : Members) : Type 0 where
  pub kinds : map seen m.kinds ≡ map (λ (j : Judged). j.own) js
  pub misfits : HasMisfits (first_misfit js) m.misfits

-- the members, none of which has a fault where these may stand, or the first fault
abbrev pub AnswersMembers : List Judged → May → Result Members Refused → Type 0
AnswersMembers js may (Ok m) = HasMembers js m × (members_fault may js ≡ None)
AnswersMembers js may (Err refused) = TellsFault (members_fault may js) refused

-- the first fault of the guards and bodies
abbrev pub arms_fault : May → List (Judged × Judged) → Option ModelFault
arms_fault may bs = first (map (λ (x : Judged × Bool). x.0.fault (if x.1 then plain_may may else part_may may)) (in_order bs))

-- the first guard that is no Boolean, or the first guard or body
abbrev pub first_untrue : Bool → List (Judged × Judged) → Option Span
first_untrue with_bodies bs = first (map (λ (x : Judged × Bool). if x.1 || with_bodies then x.0.misfit walk.truth else None) (in_order bs))

-- the bodies, and the first that is no Boolean where one is asked
pub record HasArms (bs : List (Judged × Judged)) (a : Arms) : Type 0 where
  pub bodies : HasMembers (bodies bs) a.bodies
  pub guard : a.guard ≡ first_untrue false bs
  pub either : a.either ≡ first_untrue true bs

-- the branches, none of which has a fault where these may stand, or the first fault
abbrev pub AnswersArms : List (Judged × Judged) → May → Result Arms Refused → Type 0
AnswersArms bs may (Ok a) = HasArms bs a × (arms_fault may bs ≡ None)
AnswersArms bs may (Err refused) = TellsFault (arms_fault may bs) refused
