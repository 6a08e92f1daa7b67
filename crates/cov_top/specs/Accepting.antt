-- What is found of a text and of a program.
use Rattle.std.specs.Prelude.{◌≡◌, ℕ, List, ◌⊎◌, Ok, Err}
use Rattle.cov_syntax.specs.declared.fault.Refused.{Refused}
use Rattle.cov_syntax.specs.declared.fault.Refused.TheVariants as refused
use Rattle.cov_syntax.specs.declared.program.Program.{Program}
use Rattle.cov_model.specs.declared.model.Model.{Model}
use Rattle.cov_model.specs.Accepted.{kinds}
use Rattle.cov_modules.specs.Flatten.{flat}
use Rattle.cov_top.specs.Reading.{IsProgramText, IsAccepted}

-- the flat model of the program has kinds that give this model
pub record IsAcceptedAs (p : Program) (m : Model) : Type 0 where
  pub unsettled : Model
  pub flat : flat p ≡ Ok unsettled
  pub kinds : kinds unsettled ≡ Ok m

-- a refusal tells the first fault of a program's flattening, or else of its kinds; or that memory ran out
abbrev pub TellsProgramFault : Program → Refused → Type 0
TellsProgramFault p (refused.Fault f) = (flat p ≡ Err f) ⊎ ((m : Model) × (flat p ≡ Ok m) × (kinds m ≡ Err f))
TellsProgramFault p refused.Memory = Unit {0}

-- the one program that reads the text is accepted as this model
pub record IsReadAs (text : List ℕ) (m : Model) : Type 0 where
  pub program : Program
  pub accepted : IsAccepted text program m
  pub only : (p : Program) → IsProgramText text p → p ≡ program
