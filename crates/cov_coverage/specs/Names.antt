-- The signals that names ask for.
use Rattle.std.specs.Prelude.{◌≡◌, ℕ, ◌-◌, ◌≤◌, List, length, take}
use Rattle.std.specs.List.{All, AllZip, HoldsAt}
use Rattle.cov_coverage.specs.declared.names.NamedSignal.{NamedSignal}
use Rattle.cov_coverage.specs.declared.names.NameFault.{NameFault}
use Rattle.cov_coverage.specs.declared.names.NameFault.TheVariants as fault
use Rattle.cov_model.specs.declared.model.Model.{Model}
use Rattle.cov_model.specs.declared.model.Signal.{Signal}
use Rattle.cov_types.specs.Signals.{IsSignalNamed}

-- a signal of the model that has the name
pub record IsNamed (m : Model) (name : List ℕ) (named : NamedSignal) : Type 0 where
  pub same : named.name ≡ name
  pub signal : IsSignalNamed m name named.signal

-- for each name its signal, in their order
abbrev pub AreNamed : Model → List (List ℕ) → List NamedSignal → Type 0
AreNamed m names signals = AllZip (IsNamed m) names signals

-- some signal of the model has the name
abbrev pub IsKnown : Model → List ℕ → Type 0
IsKnown m name = (q : Signal) × IsSignalNamed m name q

-- the first name that no signal of the model has stands at this place, from 1
pub record IsFirstUnknown (m : Model) (names : List (List ℕ)) (place : ℕ) : Type 0 where
  pub from : 1 ≤ place
  pub to : place ≤ length names
  pub unknown : HoldsAt (λ name. IsKnown m name → ⊥) names (place - 1)
  pub before : All (IsKnown m) (take (place - 1) names)

-- why there are no signals
abbrev pub IsNameFault : Model → List (List ℕ) → NameFault → Type 0
IsNameFault m names (fault.Unknown place) = IsFirstUnknown m names place
IsNameFault m names fault.Memory = Unit {0}
