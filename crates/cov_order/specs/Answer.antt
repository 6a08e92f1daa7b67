-- Why a model is not put in order.
use Rattle.std.specs.Prelude.{◌≡◌, List, Some}
use Rattle.cov_syntax.specs.declared.fault.Refused.{Refused}
use Rattle.cov_syntax.specs.declared.fault.Refused.TheVariants.{Fault, Memory}
use Rattle.cov_model.specs.declared.model.Define.{Define}
use Rattle.cov_model.specs.Order.{circular}

-- the fault is that of the first DEFINE that reads itself; want of memory is always possible
abbrev pub IsCircle : List Define → Refused → Type 0
IsCircle ds (Fault f) = circular ds ≡ Some f
IsCircle ds Memory = Unit {0}
