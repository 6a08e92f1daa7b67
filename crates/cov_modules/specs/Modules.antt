-- Modules, and what they declare.
use Rattle.std.specs.Prelude.{ℕ, Bool, ◌==◌, List, [], ◌∷◌, find, map, codes, Option}
use Rattle.std.specs.List.{flat_map}
use Rattle.std.specs.Str.{bytes_eq}
use Rattle.cov_syntax.specs.declared.program.Spelled.{Spelled}
use Rattle.cov_syntax.specs.declared.program.TypeTree.TheVariants as type
use Rattle.cov_syntax.specs.declared.program.Section.{Section}
use Rattle.cov_syntax.specs.declared.program.Section.TheVariants as section
use Rattle.cov_syntax.specs.declared.program.ModuleTree.{ModuleTree}
use Rattle.cov_syntax.specs.declared.program.Program.{Program}
use Rattle.cov_syntax.specs.declared.tree.Value.{Value}
use Rattle.cov_syntax.specs.declared.tree.Value.TheVariants as v
use Rattle.cov_syntax.specs.declared.tree.Expr.{Expr}
use Rattle.cov_modules.specs.Names.{text}

-- the names of the modules
abbrev pub module_names : Program → List ℕ
module_names p = map (λ (m : ModuleTree). m.name.name) p.modules

-- the first module of this name
abbrev pub module_named : Program → ℕ → Option ModuleTree
module_named p i = find (λ (m : ModuleTree). m.name.name == i) p.modules

-- the module is called `main`
abbrev pub is_main : Program → ModuleTree → Bool
is_main p m = bytes_eq (text p.names m.name.name) (codes "main")

-- the module `main`
abbrev pub main_of : Program → Option ModuleTree
main_of p = find (is_main p) p.modules

-- the names that a section declares, with their places
abbrev pub declared : Section → List Spelled
declared (section.Decl name kind place) = name ∷ []
declared (section.Define name body) = name ∷ []
declared _ = []

-- An instance as it is declared: its name, its module's name, and its arguments.
pub record Declaration : Type 0 where
  pub name : Spelled
  pub from : Spelled
  pub given : List Expr

-- the instance that a section declares
abbrev pub instance_of : Section → List Declaration
instance_of (section.Decl name (type.Instance from given) place) = record { name = name; from = from; given = given } ∷ []
instance_of _ = []

-- the instances that a module declares, in their order
abbrev pub instances : ModuleTree → List Declaration
instances m = flat_map instance_of m.sections

-- the symbol that a value is
abbrev pub symbol_of : Value → List ℕ
symbol_of (v.Sym s) = s ∷ []
symbol_of _ = []

-- the symbols of the enumeration that a section declares
abbrev pub symbols_of : Section → List ℕ
symbols_of (section.Decl name (type.List values) place) = flat_map symbol_of values
symbols_of _ = []

-- the symbols of the enumerations of a module
abbrev pub module_symbols : ModuleTree → List ℕ
module_symbols m = flat_map symbols_of m.sections

-- the symbols of all enumerations in the file
abbrev pub symbols : Program → List ℕ
symbols p = flat_map module_symbols p.modules
