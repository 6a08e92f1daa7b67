-- The faults of modules, up to the size of the flat model.
use Rattle.std.specs.Prelude.{ℕ, zero, suc, Bool, not, ◌&&◌, ◌||◌, if◌then◌else◌, ◌==◌, nat_lt, List, [], ◌∷◌, ◌++◌, map, length, is_none, option_map, Option, Some, None}
use Rattle.std.specs.List.{list_any, flat_map}
use Rattle.std.specs.Option.{option_map_or}
use Rattle.cov_syntax.specs.declared.tree.Span.{Span}
use Rattle.cov_syntax.specs.declared.fault.FaultKind.{FaultKind}
use Rattle.cov_syntax.specs.declared.fault.FaultKind.TheVariants as kind
use Rattle.cov_syntax.specs.declared.fault.ModelFault.{ModelFault}
use Rattle.cov_syntax.specs.declared.program.Spelled.{Spelled}
use Rattle.cov_syntax.specs.declared.program.ModuleTree.{ModuleTree}
use Rattle.cov_syntax.specs.declared.program.Program.{Program}
use Rattle.cov_syntax.specs.Faults.{code_of}
use Rattle.cov_modules.specs.Names.{has, first}
use Rattle.cov_modules.specs.Modules.{module_named, is_main, main_of, declared, Declaration, instances, module_symbols}
use Rattle.cov_modules.specs.Walk.{walk}
use Rattle.cov_modules.specs.Counts.{is_too_large}

-- the empty place at the start of the text
abbrev pub at_start : Span
at_start = record { start = 0; stop = 0 }

-- the fault of this kind at a place, if there is a place
abbrev pub fault : FaultKind → Option Span → Option ModelFault
fault k place = option_map (λ s. record { code = code_of k; place = s }) place

-- the place, if the test is true
abbrev pub place_if : Bool → Span → Option Span
place_if b place = if b then Some place else None

-- the first of the places, in the order of the text, that a module gives
abbrev pub in_modules : Program → (ModuleTree → List (Option Span)) → Option Span
in_modules p f = first (flat_map f p.modules)

-- there is no module `main`
abbrev pub no_main : Program → Option Span
no_main p = place_if (is_none (main_of p)) at_start

-- the first name that stood before it
abbrev pub repeated : List ℕ → List Spelled → Option Span
repeated before [] = None
repeated before (x ∷ xs) = if has before x.name then Some x.place else repeated (x.name ∷ before) xs

-- the formals of a module, and the names that it declares
abbrev pub names_of : ModuleTree → List Spelled
names_of m = m.formals ++ flat_map declared m.sections

-- a module's name that stood before, or in a module a formal or a declared name that did
abbrev pub duplicate : List ℕ → List ModuleTree → List (Option Span)
duplicate before [] = []
duplicate before (m ∷ ms) =
    place_if (has before m.name.name) m.name.place
    ∷ repeated [] (names_of m)
    ∷ duplicate (m.name.name ∷ before) ms

-- the first name that is there twice
abbrev pub duplicate_name : Program → Option Span
duplicate_name p = first (duplicate [] p.modules)

-- a declared type that names no module
abbrev pub unknown_place : Program → Declaration → Option Span
unknown_place p d = place_if (is_none (module_named p d.from.name)) d.from.place

-- the declared types of a module that name none
abbrev pub unknown_module : Program → ModuleTree → List (Option Span)
unknown_module p m = map (unknown_place p) (instances m)

-- the instances that the module of this name declares
abbrev pub instances_in : Program → ℕ → List Declaration
instances_in p i = option_map_or instances (module_named p i) []

-- the modules' names in the declarations of a module's instances
abbrev pub module_names_in : ModuleTree → List ℕ
module_names_in m = map (λ (d : Declaration). d.from.name) (instances m)

-- the modules' names in the declarations of the module of this name
abbrev pub names_below : Program → ℕ → List ℕ
names_below p i = map (λ (d : Declaration). d.from.name) (instances_in p i)

-- a module of the first name is one of the second, or has one at most so many levels below it
abbrev pub holds_module : Program → ℕ → ℕ → ℕ → Bool
holds_module p zero i j = i == j
holds_module p (suc levels) i j = (i == j) || list_any (λ (d : Declaration). holds_module p levels d.from.name j) (instances_in p i)

-- a declaration through which the module contains itself
abbrev pub recursive_place : Program → ModuleTree → Declaration → Option Span
recursive_place p m d = place_if (holds_module p (length p.modules) d.from.name m.name.name) d.from.place

-- the declarations through which the module contains itself
abbrev pub recursive_module : Program → ModuleTree → List (Option Span)
recursive_module p m = map (recursive_place p m) (instances m)

-- how many formals the module of this name has
abbrev pub formals_of : Program → ℕ → ℕ
formals_of p i = option_map_or (λ (m : ModuleTree). length m.formals) (module_named p i) 0

-- an instance with another number of arguments than its module has formals
abbrev pub wrong_place : Program → Declaration → Option Span
wrong_place p d = place_if (not (length d.given == formals_of p d.from.name)) d.from.place

-- `main` with formals
abbrev pub main_place : Program → ModuleTree → Option Span
main_place p m = place_if (is_main p m && nat_lt 0 (length m.formals)) m.name.place

-- `main` with formals, or instances with another number of arguments than formals
abbrev pub wrong_arguments : Program → ModuleTree → List (Option Span)
wrong_arguments p m = main_place p m ∷ map (wrong_place p) (instances m)

-- a declared name, not a formal, that is a symbol of an enumeration in the same module
abbrev pub name_clash : ModuleTree → List (Option Span)
name_clash m = map (λ (x : Spelled). place_if (has (module_symbols m) x.name) x.place) (flat_map declared m.sections)

-- the flat walk has more names or nodes than the limits
abbrev pub too_large : Program → Option Span
too_large p = place_if (is_too_large (walk p)) at_start

-- the first fault, up to the size of the flat model
abbrev pub modules_fault : Program → Option ModelFault
modules_fault p = first (
    fault kind.NoMain (no_main p)
    ∷ fault kind.DuplicateName (duplicate_name p)
    ∷ fault kind.UnknownModule (in_modules p (unknown_module p))
    ∷ fault kind.RecursiveModule (in_modules p (recursive_module p))
    ∷ fault kind.WrongArguments (in_modules p (wrong_arguments p))
    ∷ fault kind.NameClash (in_modules p name_clash)
    ∷ fault kind.TooLarge (too_large p)
    ∷ [])
