-- Instances by their numbers in the flat walk.
use Rattle.std.specs.Prelude.{◌≡◌, ◌<◌, ℕ, length, slice_get, slice_index_or, option_map, List, [], ◌++◌, ◌∷◌, Option, Some, None}
use Rattle.cov_syntax.specs.declared.tree.Span.{Span}
use Rattle.cov_syntax.specs.declared.program.Spelled.{Spelled}
use Rattle.cov_syntax.specs.declared.program.TypeTree.TheVariants as type
use Rattle.cov_syntax.specs.declared.program.Section.{Section}
use Rattle.cov_syntax.specs.declared.program.Section.TheVariants as section
use Rattle.cov_syntax.specs.declared.program.ModuleTree.{ModuleTree}
use Rattle.cov_syntax.specs.declared.program.Program.{Program}
use Rattle.cov_modules.specs.Conditions.{IsFlattenable}
use Rattle.cov_modules.specs.ModuleFaults.{modules_fault}
use Rattle.cov_modules.specs.Things.{Thing, variable}
use Rattle.cov_modules.specs.Walk.{Stop, root, walk}
use Rattle.cov_modules.specs.FlatLists.{Index, index_of, place_in}
use Rattle.cov_paths.specs.declared.scopes.Scopes.{Scopes}
use Rattle.cov_paths.specs.Scopes.{IsScopesOf}

-- the module without entries
abbrev pub empty_module : ModuleTree
empty_module = record { name = record { name = 0; place = record { start = 0; stop = 0 } }; formals = []; sections = [] }

-- the flat walk; opened by name alone, since it is long
unfoldable pub flat_walk : Program → List Stop
flat_walk p = walk p

-- the flat names; opened by name alone, since they are long
unfoldable pub flat_index : Program → Index
flat_index p = index_of p

-- the stop of a number, and one without entries for a number past the walk
unfoldable pub stop_at : Program → ℕ → Stop
stop_at p k = slice_index_or (flat_walk p) k (root empty_module)

-- what is known where instances are gone through: the modules have no fault, and the table of names is the program's
pub record IsScoped (p : Program) (c : Scopes) : Type 0 where
  pub flattenable : IsFlattenable p
  pub sound : modules_fault p ≡ None
  pub scopes : IsScopesOf p c

-- the same, at the number of an instance
pub record IsReader (p : Program) (c : Scopes) (k : ℕ) : Type 0 where
  pub scoped : IsScoped p c
  pub there : k < length (flat_walk p)

-- the number of the variable that a thing is
abbrev pub variable_number : Index → Option Thing → Option ℕ
variable_number ix (Some (variable d)) = Some (place_in ix.vars d)
variable_number ix _ = None

-- the variable of a number
abbrev pub variable_of : Index → Option ℕ → Option Thing
variable_of ix (Some i) = option_map variable (slice_get ix.vars i)
variable_of ix None = None

-- a thing that is a variable
abbrev pub only_variable : Option Thing → Option Thing
only_variable (Some (variable d)) = Some (variable d)
only_variable _ = None

-- the section that declares an instance
pub record IsDeclaration (p : Program) (s : Stop) (entry : Section) : Type 0 where
  pub name : Spelled
  pub from : Spelled
  pub place : Span
  pub is : entry ≡ section.Decl name (type.Instance from s.given) place
  pub named : s.here.name ≡ s.caller.name ++ name.name ∷ []
