-- The faults of a model's text, and their numbers.
use Rattle.std.specs.Prelude.{◌≡◌, ℕ, zero, suc, List, [], ◌∷◌, codes, Option, None, slice_get, Result, Ok, Err}
use Rattle.std.specs.Option.{option_map_or}
use Rattle.cov_syntax.specs.declared.fault.FaultKind.{FaultKind}
use Rattle.cov_syntax.specs.declared.fault.ModelFault.{ModelFault}
use Rattle.cov_syntax.specs.declared.fault.Refused.{Refused}
use Rattle.cov_syntax.specs.declared.fault.Refused.TheVariants.{Fault, Memory}
use Rattle.cov_syntax.specs.declared.fault.FaultKind.TheVariants.{BadByte, Syntax, NoMain, UnknownModule, RecursiveModule, WrongArguments, DuplicateName, UnknownName, NameClash, BadType, Kind, SetPlace, CaseNotClosed, DivisorMayBeZero, RangeTooWide, DoubleAssign, Circular, NextPlace, TemporalPlace, LeftOut, TooManyBits, TooDeep, TooLarge, FileTooLong}

-- the number of a fault
abbrev pub code_of : FaultKind → ℕ
code_of BadByte = 1
code_of Syntax = 2
code_of NoMain = 3
code_of UnknownModule = 4
code_of RecursiveModule = 5
code_of WrongArguments = 6
code_of DuplicateName = 7
code_of UnknownName = 8
code_of NameClash = 9
code_of BadType = 10
code_of Kind = 11
code_of SetPlace = 12
code_of CaseNotClosed = 13
code_of DivisorMayBeZero = 14
code_of RangeTooWide = 15
code_of DoubleAssign = 16
code_of Circular = 17
code_of NextPlace = 18
code_of TemporalPlace = 19
code_of LeftOut = 20
code_of TooManyBits = 21
code_of TooDeep = 22
code_of TooLarge = 23
code_of FileTooLong = 24

-- the faults in the order of their numbers, from 1
abbrev pub fault_kinds : List FaultKind
fault_kinds = BadByte ∷ Syntax ∷ NoMain ∷ UnknownModule ∷ RecursiveModule ∷ WrongArguments ∷ DuplicateName ∷ UnknownName ∷ NameClash ∷ BadType ∷ Kind ∷ SetPlace ∷ CaseNotClosed ∷ DivisorMayBeZero ∷ RangeTooWide ∷ DoubleAssign ∷ Circular ∷ NextPlace ∷ TemporalPlace ∷ LeftOut ∷ TooManyBits ∷ TooDeep ∷ TooLarge ∷ FileTooLong ∷ []

-- the fault of a number, if there is one
abbrev pub kind_numbered : ℕ → Option FaultKind
kind_numbered zero = None
kind_numbered (suc n) = slice_get fault_kinds n

-- the name of a fault in error lines
abbrev pub kind_name : FaultKind → List ℕ
kind_name BadByte = codes "BadByte"
kind_name Syntax = codes "Syntax"
kind_name NoMain = codes "NoMain"
kind_name UnknownModule = codes "UnknownModule"
kind_name RecursiveModule = codes "RecursiveModule"
kind_name WrongArguments = codes "WrongArguments"
kind_name DuplicateName = codes "DuplicateName"
kind_name UnknownName = codes "UnknownName"
kind_name NameClash = codes "NameClash"
kind_name BadType = codes "BadType"
kind_name Kind = codes "Kind"
kind_name SetPlace = codes "SetPlace"
kind_name CaseNotClosed = codes "CaseNotClosed"
kind_name DivisorMayBeZero = codes "DivisorMayBeZero"
kind_name RangeTooWide = codes "RangeTooWide"
kind_name DoubleAssign = codes "DoubleAssign"
kind_name Circular = codes "Circular"
kind_name NextPlace = codes "NextPlace"
kind_name TemporalPlace = codes "TemporalPlace"
kind_name LeftOut = codes "LeftOut"
kind_name TooManyBits = codes "TooManyBits"
kind_name TooDeep = codes "TooDeep"
kind_name TooLarge = codes "TooLarge"
kind_name FileTooLong = codes "FileTooLong"

-- the name of a number, and nothing where it is no fault's
abbrev pub name_of : ℕ → List ℕ
name_of code = option_map_or kind_name (kind_numbered code) []

-- a call answered this, or ran out of memory
abbrev pub Gives : {X : Type 0} → Result X Refused → Result X ModelFault → Type 0
Gives (Ok x) answer = answer ≡ Ok x
Gives (Err (Fault fault)) answer = answer ≡ Err fault
Gives (Err Memory) answer = Unit {0}
