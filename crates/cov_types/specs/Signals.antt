-- The signals of a model, by their flat names.
use Rattle.std.specs.Prelude.{◌≡◌, ℕ, IsTrue, List, map, slice_get, Some}
use Rattle.cov_model.specs.declared.model.Var.{Var}
use Rattle.cov_model.specs.declared.model.Define.{Define}
use Rattle.cov_model.specs.declared.model.Model.{Model}
use Rattle.cov_model.specs.declared.model.Signal.{Signal}
use Rattle.cov_model.specs.declared.model.Signal.TheVariants as signal
use Rattle.cov_model.specs.Kinds.{is_boolean, kind_at}
use Rattle.cov_model.specs.Settled.{kinds_of}

-- the flat names of variables, each by its place among the names of the model
abbrev pub variable_names : List Var → List ℕ
variable_names vars = map (λ (x : Var). x.name) vars

-- the flat names of DEFINEs
abbrev pub define_names : List Define → List ℕ
define_names defines = map (λ (d : Define). d.name) defines

-- a Boolean variable of the model that has the flat name
pub record IsVariableNamed (m : Model) (name : List ℕ) (i : ℕ) : Type 0 where
  pub variable : Var
  pub there : slice_get m.vars i ≡ Some variable
  pub named : slice_get m.names variable.name ≡ Some name
  pub boolean : IsTrue (is_boolean (kind_at (kinds_of m).vars i))

-- a Boolean DEFINE of the model that has the flat name
pub record IsDefineNamed (m : Model) (name : List ℕ) (i : ℕ) : Type 0 where
  pub define : Define
  pub there : slice_get m.defines i ≡ Some define
  pub named : slice_get m.names define.name ≡ Some name
  pub boolean : IsTrue (is_boolean (kind_at (kinds_of m).defs i))

-- the Boolean variable or the Boolean DEFINE that has the flat name
abbrev pub IsSignalNamed : Model → List ℕ → Signal → Type 0
IsSignalNamed m name (signal.Var i) = IsVariableNamed m name i
IsSignalNamed m name (signal.Def i) = IsDefineNamed m name i
