-- What flattening asks of a program; every program that is read has it.
use Rattle.std.specs.Prelude.{◌≤◌, ℕ, Bool, true, false, ◌&&◌, nat_lt, is_some, List, [], ◌∷◌, ◌++◌, map, length, IsTrue}
use Rattle.std.specs.List.{list_all, flat_map}
use Rattle.cov_syntax.specs.declared.program.Spelled.{Spelled}
use Rattle.cov_syntax.specs.declared.program.TypeTree.TheVariants as type
use Rattle.cov_syntax.specs.declared.program.Section.{Section}
use Rattle.cov_syntax.specs.declared.program.Section.TheVariants as section
use Rattle.cov_syntax.specs.declared.program.ModuleTree.{ModuleTree}
use Rattle.cov_syntax.specs.declared.program.Program.{Program}
use Rattle.cov_syntax.specs.declared.tree.Value.{Value}
use Rattle.cov_syntax.specs.declared.tree.Value.TheVariants as v
use Rattle.cov_syntax.specs.declared.tree.Expr.{Expr}
use Rattle.cov_syntax.specs.declared.tree.Node.TheOpen.{Node-F}
use Rattle.cov_syntax.specs.declared.tree.Node.TheFolds.{fold-Expr}
use Rattle.cov_model.specs.Names.{is_name}
use Rattle.cov_modules.specs.Modules.{declared, symbol_of, symbols_of, Declaration, instances}
use Rattle.cov_modules.specs.Things.{path_of}

-- the most names of a program
abbrev pub most_program_names : ℕ
most_program_names = 1048576

-- all expressions of a section
abbrev pub expressions_of : Section → List Expr
expressions_of (section.Decl name (type.Instance from given) place) = given
expressions_of (section.Define name body) = body ∷ []
expressions_of (section.Assign when target body) = target ∷ body ∷ []
expressions_of (section.Cond kind body) = body ∷ []
expressions_of _ = []

-- all expressions of a module
abbrev pub module_expressions : ModuleTree → List Expr
module_expressions m = flat_map expressions_of m.sections

-- the names that a node cites, by those of its parts
abbrev pub cited_layer : Node-F (List ℕ) (List ℕ) (List ℕ) → List ℕ
cited_layer (Node-F.Lit x) = symbol_of x
cited_layer (Node-F.Path path) = path
cited_layer (Node-F.One op a) = a
cited_layer (Node-F.Two op a b) = a ++ b
cited_layer (Node-F.Set es) = flat_map (λ xs. xs) es
cited_layer (Node-F.Case bs) = flat_map (λ xs. xs) bs
cited_layer _ = []

-- the names that an expression cites
abbrev pub cited : Expr → List ℕ
cited = fold-Expr (List ℕ) (List ℕ) (List ℕ) cited_layer (λ b. b.guard ++ b.body) (λ e. e.node)

-- the names that a module cites: its own and its formals, what it declares, the modules of its instances, its symbols, and those in its expressions
abbrev pub names_cited : ModuleTree → List ℕ
names_cited m =
    map (λ (x : Spelled). x.name) (m.name ∷ m.formals ++ flat_map declared m.sections)
    ++ map (λ (d : Declaration). d.from.name) (instances m)
    ++ flat_map symbols_of m.sections
    ++ flat_map cited (module_expressions m)

-- there is something in the list
abbrev pub is_filled : {A : Type 0} → List A → Bool
is_filled [] = false
is_filled (x ∷ xs) = true

-- a node has the form that it has before flattening, by its parts
abbrev pub unflat_layer : Node-F Bool Bool Bool → Bool
unflat_layer (Node-F.Lit x) = true
unflat_layer (Node-F.Path path) = is_filled path
unflat_layer (Node-F.Var i) = false
unflat_layer (Node-F.Def i) = false
unflat_layer (Node-F.One op a) = a
unflat_layer (Node-F.Two op a b) = a && b
unflat_layer (Node-F.Range low high) = true
unflat_layer (Node-F.Set es) = is_filled es && list_all (λ b. b) es
unflat_layer (Node-F.Case bs) = is_filled bs && list_all (λ b. b) bs

-- each path has a part, no set or case is empty, and no node names a variable or a DEFINE by its place
abbrev pub is_unflat : Expr → Bool
is_unflat = fold-Expr Bool Bool Bool unflat_layer (λ b. b.guard && b.body) (λ e. e.node)

-- the target of an assignment is a path
abbrev pub has_path : Section → Bool
has_path (section.Assign when target body) = is_some (path_of target)
has_path _ = true

-- a value of an enumeration is no Boolean
abbrev pub is_enumerable : Value → Bool
is_enumerable (v.Bool b) = false
is_enumerable _ = true

-- an enumeration is not empty, and has no Boolean
abbrev pub has_values : Section → Bool
has_values (section.Decl name (type.List values) place) = is_filled values && list_all is_enumerable values
has_values _ = true

-- What whoever flattens a program can know.
pub record IsFlattenable (p : Program) : Type 0 where
  pub few_names : length p.names ≤ most_program_names
  pub names : IsTrue (list_all is_name p.names)
  pub cited_there : IsTrue (list_all (λ (m : ModuleTree). list_all (λ i. nat_lt i (length p.names)) (names_cited m)) p.modules)
  pub unflat : IsTrue (list_all (λ (m : ModuleTree). list_all is_unflat (module_expressions m)) p.modules)
  pub targets : IsTrue (list_all (λ (m : ModuleTree). list_all has_path m.sections) p.modules)
  pub enumerations : IsTrue (list_all (λ (m : ModuleTree). list_all has_values m.sections) p.modules)
