-- What a path names in an instance.
use Rattle.std.specs.Prelude.{ℕ, ◌++◌, ◌==◌, if◌then◌else◌, List, [], ◌∷◌, map, fold, unwrap_or, option_map, Option, Some, None}
use Rattle.cov_syntax.specs.declared.program.TypeTree.TheVariants as type
use Rattle.cov_syntax.specs.declared.program.Section.{Section}
use Rattle.cov_syntax.specs.declared.program.Section.TheVariants as section
use Rattle.cov_syntax.specs.declared.program.ModuleTree.{ModuleTree}
use Rattle.cov_syntax.specs.declared.program.Program.{Program}
use Rattle.cov_syntax.specs.declared.tree.Expr.{Expr}
use Rattle.cov_syntax.specs.declared.tree.Branch.{Branch}
use Rattle.cov_syntax.specs.declared.tree.Node.{Node, out-Node}
use Rattle.cov_syntax.specs.declared.tree.Node.TheOpen.{Node-F}
use Rattle.cov_modules.specs.Names.{Dotted, has, first}
use Rattle.cov_modules.specs.Modules.{module_named, symbols}

-- What a path names: a variable or a DEFINE by its flat name, an instance by its dotted name with its module, or a symbol.
pub data Thing : Type 0 where
  variable : Dotted → Thing
  define : Dotted → Thing
  instance : Dotted → ModuleTree → Thing
  symbol : ℕ → Thing

-- what a section of an instance declares under this name
abbrev pub declares : Program → Dotted → ℕ → Section → Option Thing
declares p at i (section.Decl name (type.Instance from given) place) =
    if name.name == i then option_map (λ m. instance (at ++ i ∷ []) m) (module_named p from.name) else None
declares p at i (section.Decl name _ place) = if name.name == i then Some (variable (at ++ i ∷ [])) else None
declares p at i (section.Define name body) = if name.name == i then Some (define (at ++ i ∷ [])) else None
declares p at i _ = None

-- what an instance's own module declares under this name
abbrev pub own : Program → Dotted → ModuleTree → ℕ → Option Thing
own p at m i = first (map (declares p at i) m.sections)

-- An instance of the flat walk. Each formal stands for a thing of the caller, or for none where the argument names nothing.
pub record Instance : Type 0 where
  pub name : Dotted
  pub from : ModuleTree
  pub formals : List (ℕ × Option Thing)

-- what the formal of this name stands for
abbrev pub formal : List (ℕ × Option Thing) → ℕ → Option (Option Thing)
formal [] i = None
formal (f ∷ fs) i = if f.0 == i then Some f.1 else formal fs i

-- a symbol of any enumeration in the file
abbrev pub known_symbol : Program → ℕ → Option Thing
known_symbol p i = if has (symbols p) i then Some (symbol i) else None

-- a formal, or else what the module declares, or else a symbol
abbrev pub first_part : Program → Instance → ℕ → Option Thing
first_part p x i = unwrap_or (formal x.formals i) (first (own p x.name x.from i ∷ known_symbol p i ∷ []))

-- a part behind a dot: what the module of the instance before it declares
abbrev pub further_part : Program → Option Thing → ℕ → Option Thing
further_part p (Some (instance at m)) i = own p at m i
further_part p _ i = None

-- what a path names in an instance
abbrev pub named : Program → Instance → Dotted → Option Thing
named p x [] = None
named p x (i ∷ is) = fold (further_part p) (first_part p x i) is

-- the path that a node is
abbrev pub path_layer : Node-F Node Branch Expr → Option Dotted
path_layer (Node-F.Path path) = Some path
path_layer _ = None

-- the path that an expression is, if it is one
abbrev pub path_of : Expr → Option Dotted
path_of e = path_layer (out-Node e.node)
