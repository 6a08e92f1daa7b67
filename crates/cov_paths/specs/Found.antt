-- What the parts of a path name in the stop of a number.
use Rattle.std.specs.Prelude.{◌≡◌, ℕ, IsTrue, if◌then◌else◌, List, [], ◌∷◌, slice_get, is_some, option_and_then, Option, Some, None}
use Rattle.std.specs.List.{AllZip}
use Rattle.std.specs.Option.{option_map_or}
use Rattle.cov_syntax.specs.declared.program.Program.{Program}
use Rattle.cov_syntax.specs.declared.tree.Expr.{Expr}
use Rattle.cov_modules.specs.Names.{has, first}
use Rattle.cov_modules.specs.Things.{Thing, own, formal, known_symbol, first_part, path_of}
use Rattle.cov_modules.specs.Walk.{Stop, walk}
use Rattle.cov_paths.specs.declared.target.Target.{Target}
use Rattle.cov_paths.specs.declared.target.Target.TheVariants as target
use Rattle.cov_paths.specs.Targets.{thing_of, named_at, IsNamed}

-- the thing that is found
abbrev pub thing_found : Program → Option Target → Option Thing
thing_found p x = option_and_then (thing_of p) x

-- what is found is a thing
abbrev pub IsThere : Program → Option Target → Type 0
IsThere p None = Unit {0}
IsThere p (Some x) = IsTrue (is_some (thing_of p x))

-- what the module of a stop declares under a name
abbrev pub own_at : Program → ℕ → ℕ → Option Thing
own_at p k i = option_map_or (λ (s : Stop). own p s.here.name s.here.from i) (slice_get (walk p) k) None

-- what the module of a stop declares under a name, or else a symbol
abbrev pub declared_at : Program → ℕ → ℕ → Option Thing
declared_at p k i = option_map_or (λ (s : Stop). first (own p s.here.name s.here.from i ∷ known_symbol p i ∷ [])) (slice_get (walk p) k) None

-- what the first part of a path names in a stop
abbrev pub first_at : Program → ℕ → ℕ → Option Thing
first_at p k i = option_map_or (λ (s : Stop). first_part p s.here i) (slice_get (walk p) k) None

-- what the formals of a stop stand for
abbrev pub formals_at : Program → ℕ → List (ℕ × Option Thing)
formals_at p k = option_map_or (λ (s : Stop). s.here.formals) (slice_get (walk p) k) []

-- what the formal of a name stands for in a stop
abbrev pub formal_at : Program → ℕ → ℕ → Option (Option Thing)
formal_at p k i = formal (formals_at p k) i

-- the formal stands for what is found, or there is no such formal
abbrev pub IsFormal : Program → Option (Option Target) → Option (Option Thing) → Type 0
IsFormal p None None = Unit {0}
IsFormal p (Some x) (Some t) = IsNamed p x t
IsFormal p _ _ = ⊥

-- each formal stands for its target
abbrev pub AreNamed : Program → List (Option Target) → List (ℕ × Option Thing) → Type 0
AreNamed p xs fs = AllZip (λ (f : ℕ × Option Thing) (x : Option Target). IsNamed p x f.1) fs xs

-- the symbol of a name that is one
abbrev pub symbol_in : List ℕ → ℕ → Option Target
symbol_in symbols i = if has symbols i then Some (target.Symbol i) else None

-- the target of an argument: what its path names in the caller, or else the DEFINE of a number
abbrev pub IsArgument : Program → ℕ → Expr → ℕ → Option Target → Type 0
IsArgument p caller e number x = elim (path_of e) [ Some path ↦ IsNamed p x (named_at p caller path) | None ↦ x ≡ Some (target.Define number) ]
