-- The flat model of a program, or its first fault.
use Rattle.std.specs.Prelude.{◌≡◌, [], ◌∷◌, Option, Some, None, Result, Ok, Err}
use Rattle.cov_syntax.specs.declared.fault.FaultKind.TheVariants as kind
use Rattle.cov_syntax.specs.declared.fault.ModelFault.{ModelFault}
use Rattle.cov_syntax.specs.declared.fault.Refused.{Refused}
use Rattle.cov_syntax.specs.declared.fault.Refused.TheVariants.{Fault, Memory}
use Rattle.cov_syntax.specs.declared.program.Program.{Program}
use Rattle.cov_model.specs.declared.model.Model.{Model}
use Rattle.cov_modules.specs.Names.{first}
use Rattle.cov_modules.specs.FlatLists.{flat_model}
use Rattle.cov_modules.specs.ModuleFaults.{fault, modules_fault}
use Rattle.cov_modules.specs.NameFaults.{unknown_name, double_assign}

-- the first fault of a program: those of its modules, then those that the flat walk meets
abbrev pub flat_fault : Program → Option ModelFault
flat_fault p = first (
    modules_fault p
    ∷ fault kind.UnknownName (unknown_name p)
    ∷ fault kind.DoubleAssign (double_assign p)
    ∷ [])

-- the flat model of a program, or its first fault
abbrev pub flat : Program → Result Model ModelFault
flat p = elim (flat_fault p) [ Some f ↦ Err f | None ↦ Ok (flat_model p) ]

-- a refusal tells this fault, or that memory ran out
abbrev pub Tells : Option ModelFault → Refused → Type 0
Tells found (Fault f) = found ≡ Some f
Tells found Memory = Unit {0}
