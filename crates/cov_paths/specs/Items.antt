-- What a module declares under its names, by their ranks.
use Rattle.std.specs.Prelude.{◌≡◌, ℕ, ◌+◌, ◌==◌, if◌then◌else◌, List, [], ◌∷◌, map, Option, Some, None}
use Rattle.std.specs.Ordering.{nat_cmp}
use Rattle.std.specs.BTreeMap.{get}
use Rattle.cov_syntax.specs.declared.program.Spelled.{Spelled}
use Rattle.cov_syntax.specs.declared.program.TypeTree.TheVariants as type
use Rattle.cov_syntax.specs.declared.program.Section.{Section}
use Rattle.cov_syntax.specs.declared.program.Section.TheVariants as section
use Rattle.cov_syntax.specs.declared.program.ModuleTree.{ModuleTree}
use Rattle.cov_modules.specs.Names.{place_of}
use Rattle.cov_paths.specs.declared.item.Item.{Item}
use Rattle.cov_paths.specs.declared.item.Item.TheVariants as item
use Rattle.cov_paths.specs.declared.item.Ranks.{Ranks}
use Rattle.cov_paths.specs.declared.scope.Scope.{Scope}

-- an item behind so many others of its sort
abbrev pub behind : Ranks → Option Item → Option Item
behind r (Some (item.Variable k)) = Some (item.Variable (r.variables + k))
behind r (Some (item.Define k)) = Some (item.Define (r.defines + k))
behind r (Some (item.Instance k)) = Some (item.Instance (r.instances + k))
behind r None = None

-- one variable
abbrev pub one_variable : Ranks
one_variable = record { variables = 1; defines = 0; instances = 0 }

-- one DEFINE
abbrev pub one_define : Ranks
one_define = record { variables = 0; defines = 1; instances = 0 }

-- one instance
abbrev pub one_instance : Ranks
one_instance = record { variables = 0; defines = 0; instances = 1 }

-- what is declared under a name from a section on, by what is declared behind it
abbrev pub item_before : Section → ℕ → Option Item → Option Item
item_before (section.Decl name (type.Instance from given) place) i rest = if name.name == i then Some (item.Instance 0) else behind one_instance rest
item_before (section.Decl name _ place) i rest = if name.name == i then Some (item.Variable 0) else behind one_variable rest
item_before (section.Define name body) i rest = if name.name == i then Some (item.Define 0) else behind one_define rest
item_before _ i rest = rest

-- what sections declare under a name, with its rank among those of its sort
abbrev pub item_in : List Section → ℕ → Option Item
item_in [] i = None
item_in (s ∷ ss) i = item_before s i (item_in ss i)

-- A scope has the formals and the declared names of a module.
pub record IsScopeOf (m : ModuleTree) (q : Scope) : Type 0 where
  pub formals : (i : ℕ) → get nat_cmp q.formals i ≡ place_of (map (λ (f : Spelled). f.name) m.formals) i
  pub items : (i : ℕ) → get nat_cmp q.items i ≡ item_in m.sections i
