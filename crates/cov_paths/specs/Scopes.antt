-- The scopes of a program.
use Rattle.std.specs.Prelude.{◌≡◌, ℕ, ◌≤◌, List, length, slice_get, Option, Some}
use Rattle.cov_syntax.specs.declared.program.ModuleTree.{ModuleTree}
use Rattle.cov_syntax.specs.declared.program.Program.{Program}
use Rattle.cov_modules.specs.Names.{HasSame}
use Rattle.cov_modules.specs.Modules.{symbols}
use Rattle.cov_modules.specs.Walk.{walk}
use Rattle.cov_stops.specs.Table.{IsStopsOf}
use Rattle.cov_paths.specs.declared.scope.Scope.{Scope}
use Rattle.cov_paths.specs.declared.own_names.OwnNames.{OwnNames}
use Rattle.cov_paths.specs.declared.scopes.Scopes.{Scopes}
use Rattle.cov_paths.specs.declared.target.Target.{Target}
use Rattle.cov_paths.specs.Items.{IsScopeOf}
use Rattle.cov_paths.specs.Arguments.{first_own}
use Rattle.cov_paths.specs.Found.{AreNamed, formals_at}

-- The scopes of modules, one for each.
pub record AreScopesOf (ms : List ModuleTree) (qs : List Scope) : Type 0 where
  pub count : length qs ≡ length ms
  pub each : (j : ℕ) → (m : ModuleTree) → (q : Scope) → slice_get ms j ≡ Some m → slice_get qs j ≡ Some q → IsScopeOf m q

-- For each stop the number of the first DEFINE that its module declares there.
pub record AreFirstDefines (p : Program) (ns : List ℕ) : Type 0 where
  pub count : length ns ≡ length (walk p)
  pub each : (k : ℕ) → (n : ℕ) → slice_get ns k ≡ Some n → n ≡ first_own p k

-- What the modules of the stops declare under their names.
pub record IsOwnNamesOf (p : Program) (t : OwnNames) : Type 0 where
  pub stops : IsStopsOf p t.stops
  pub scopes : AreScopesOf p.modules t.modules
  pub firsts : AreFirstDefines p t.first_defines

-- The scopes of the first stops: what their modules declare, the symbols of the file, and what their formals stand for.
pub record AreFirstScopes (p : Program) (c : Scopes) : Type 0 where
  pub own : IsOwnNamesOf p c.own
  pub symbols : HasSame c.symbols (symbols p)
  pub few : length c.formals ≤ length (walk p)
  pub formals : (k : ℕ) → (xs : List (Option Target)) → slice_get c.formals k ≡ Some xs → AreNamed p xs (formals_at p k)

-- The scopes of all stops of a program.
pub record IsScopesOf (p : Program) (c : Scopes) : Type 0 where
  pub stops : IsStopsOf p c.own.stops
  pub scopes : AreFirstScopes p c
  pub all : length c.formals ≡ length (walk p)
