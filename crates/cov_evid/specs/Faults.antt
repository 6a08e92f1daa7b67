-- The faults of the text of evidence, and their numbers.
use Rattle.std.specs.Prelude.{ℕ, zero, suc, List, [], ◌∷◌, codes, Option, None, slice_get}
use Rattle.std.specs.Option.{option_map_or}
use Rattle.cov_evid.specs.declared.fault.EvidFault.{EvidFault}
use Rattle.cov_evid.specs.declared.fault.EvidFaultKind.{EvidFaultKind}
use Rattle.cov_evid.specs.declared.fault.EvidFaultKind.TheVariants as kind

-- the number of a fault
abbrev pub code_of : EvidFaultKind → ℕ
code_of kind.Header = 1
code_of kind.Line = 2
code_of kind.UnknownName = 3
code_of kind.BadValue = 4
code_of kind.Cut = 5
code_of kind.Trailing = 6
code_of kind.TooLong = 7

-- the faults in the order of their numbers, from 1
abbrev pub fault_kinds : List EvidFaultKind
fault_kinds = kind.Header ∷ kind.Line ∷ kind.UnknownName ∷ kind.BadValue ∷ kind.Cut ∷ kind.Trailing ∷ kind.TooLong ∷ []

-- the fault of a number, if there is one
abbrev pub kind_numbered : ℕ → Option EvidFaultKind
kind_numbered zero = None
kind_numbered (suc n) = slice_get fault_kinds n

-- the name of a fault in error lines
abbrev pub kind_name : EvidFaultKind → List ℕ
kind_name kind.Header = codes "Header"
kind_name kind.Line = codes "Line"
kind_name kind.UnknownName = codes "UnknownName"
kind_name kind.BadValue = codes "BadValue"
kind_name kind.Cut = codes "Cut"
kind_name kind.Trailing = codes "Trailing"
kind_name kind.TooLong = codes "TooLong"

-- the name of a number, and nothing where it is no fault's
abbrev pub name_of : ℕ → List ℕ
name_of code = option_map_or kind_name (kind_numbered code) []

-- a fault at a line
abbrev pub fault_at : EvidFaultKind → ℕ → EvidFault
fault_at kind line = record { code = code_of kind; line = line }
