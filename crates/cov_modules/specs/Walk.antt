-- The instance tree, in the order of the flat walk.
use Rattle.std.specs.Prelude.{ℕ, zero, suc, ◌++◌, List, [], ◌∷◌, length, Option, Some, None}
use Rattle.std.specs.List.{flat_map}
use Rattle.std.specs.Option.{option_map_or}
use Rattle.cov_syntax.specs.declared.program.Spelled.{Spelled}
use Rattle.cov_syntax.specs.declared.program.ModuleTree.{ModuleTree}
use Rattle.cov_syntax.specs.declared.program.Program.{Program}
use Rattle.cov_syntax.specs.declared.tree.Expr.{Expr}
use Rattle.cov_modules.specs.Names.{Dotted}
use Rattle.cov_modules.specs.Modules.{module_named, main_of, Declaration, instances}
use Rattle.cov_modules.specs.Things.{Thing, define, Instance, named, path_of}

-- what a formal stands for: what the argument's path names in the caller, or else the DEFINE that the argument becomes
abbrev pub argument : Program → Instance → Dotted → Spelled → Expr → Option Thing
argument p caller at formal e = elim (path_of e) [ Some path ↦ named p caller path | None ↦ Some (define (at ++ formal.name ∷ [])) ]

-- each formal with what it stands for
abbrev pub arguments : Program → Instance → Dotted → List Spelled → List Expr → List (ℕ × Option Thing)
arguments p caller at (f ∷ fs) (e ∷ es) = (f.name, argument p caller at f e) ∷ arguments p caller at fs es
arguments p caller at _ _ = []

-- A stop of the flat walk: an instance, the arguments that it is given, and the instance that gives them.
pub record Stop : Type 0 where
  pub caller : Instance
  pub given : List Expr
  pub here : Instance

-- the stop that a declaration of an instance makes
abbrev pub stop_in : Program → Instance → Declaration → List Stop
stop_in p caller d = option_map_or (λ (m : ModuleTree). let at = caller.name ++ d.name.name ∷ [] in record {
  caller = caller;
  given = d.given;
  here = record { name = at; from = m; formals = arguments p caller at m.formals d.given };
} ∷ []) (module_named p d.from.name) []

-- the stops right below a stop
abbrev pub stops_below : Program → Stop → List Stop
stops_below p s = flat_map (stop_in p s.here) (instances s.here.from)

-- an instance, and below it at most so many levels of instances, each right before those below it
abbrev pub walk_from : Program → ℕ → Stop → List Stop
walk_from p zero s = s ∷ []
walk_from p (suc levels) s = s ∷ flat_map (walk_from p levels) (stops_below p s)

-- the stop at `main`, which nobody gives arguments
abbrev pub root : ModuleTree → Stop
root m = let i : Instance = record { name = []; from = m; formals = [] } in record { caller = i; given = []; here = i }

-- the flat walk; no module contains itself, so an instance has fewer levels below it than there are modules
abbrev pub walk : Program → List Stop
walk p = option_map_or (λ m. walk_from p (length p.modules) (root m)) (main_of p) []
