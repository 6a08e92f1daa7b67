-- What a walk answers: what it finds at an expression, or the first fault.
use Rattle.std.specs.Prelude.{◌≡◌, Option, Some, None, Result, Ok, Err}
use Rattle.cov_syntax.specs.declared.fault.ModelFault.{ModelFault}
use Rattle.cov_syntax.specs.declared.fault.Refused.{Refused}
use Rattle.cov_syntax.specs.declared.fault.Refused.TheVariants.{Fault, Memory}
use Rattle.cov_model.specs.Kinds.{Kinds}
use Rattle.cov_model.specs.Walk.{Judged, May, judged}
use Rattle.cov_syntax.specs.declared.tree.Expr.{Expr}
use Rattle.cov_kinds.specs.Seen.{seen}
use Rattle.cov_walk.specs.declared.found.Found.{Found}
use Rattle.cov_walk.specs.Misfits.{HasMisfits}

-- the fault is this one; want of memory is always possible
abbrev pub TellsFault : Option ModelFault → Refused → Type 0
TellsFault found (Fault f) = found ≡ Some f
TellsFault found Memory = Unit {0}

-- a test passes where there is no fault, and else tells it
abbrev pub Tells : {X : Type 0} → Option ModelFault → Result X Refused → Type 0
Tells found (Ok x) = found ≡ None
Tells found (Err refused) = TellsFault found refused

-- there is no fault where these may stand, and the own kind and what does not fit are as the walk finds them
pub record IsFound (j : Judged) (may : May) (f : Found) : Type 0 where
  pub own : seen f.own ≡ j.own
  pub misfits : HasMisfits j.misfit f.misfits
  pub none : j.fault may ≡ None

-- what is found where these may stand, or the first fault
abbrev pub Answers : Judged → May → Result Found Refused → Type 0
Answers j may (Ok f) = IsFound j may f
Answers j may (Err refused) = TellsFault (j.fault may) refused

-- in some place the walk finds no fault
pub record HasNoFault (ks : Kinds) (e : Expr) : Type 0 where
  pub may : May
  pub none : (judged ks e).fault may ≡ None
