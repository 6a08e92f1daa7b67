-- The faults that the flat walk meets: names that name no value, and second assignments.
use Rattle.std.specs.Prelude.{Bool, true, false, not, ◌&&◌, ◌||◌, if◌then◌else◌, List, [], ◌∷◌, ◌++◌, map, is_none, Option, Some, None}
use Rattle.std.specs.List.{list_any, flat_map}
use Rattle.cov_syntax.specs.declared.tree.Span.{Span}
use Rattle.cov_syntax.specs.declared.program.When.TheVariants as when
use Rattle.cov_syntax.specs.declared.program.Section.{Section}
use Rattle.cov_syntax.specs.declared.program.Section.TheVariants as section
use Rattle.cov_syntax.specs.declared.program.Program.{Program}
use Rattle.cov_syntax.specs.declared.tree.Expr.{Expr}
use Rattle.cov_syntax.specs.declared.tree.Node.TheOpen.{Node-F}
use Rattle.cov_syntax.specs.declared.tree.Node.TheFolds.{fold-Expr}
use Rattle.cov_modules.specs.Names.{same_name, first}
use Rattle.cov_modules.specs.Things.{Thing, variable, define, symbol, Instance, named, path_of}
use Rattle.cov_modules.specs.Walk.{Stop, walk}
use Rattle.cov_modules.specs.FlatLists.{same_when, Assignment, target_of, assignments}
use Rattle.cov_modules.specs.ModuleFaults.{place_if}

-- a variable, a DEFINE or a symbol
abbrev pub is_value : Option Thing → Bool
is_value (Some (variable d)) = true
is_value (Some (define d)) = true
is_value (Some (symbol i)) = true
is_value _ = false

-- a variable
abbrev pub is_variable : Option Thing → Bool
is_variable (Some (variable d)) = true
is_variable _ = false

-- the first path of a node that names no value in the instance, by those of its parts
abbrev pub unknown_layer : Program → Instance → Node-F (Span → Option Span) (Option Span) (Option Span) → Span → Option Span
unknown_layer p x (Node-F.Path path) place = place_if (not (is_value (named p x path))) place
unknown_layer p x (Node-F.One op a) place = a
unknown_layer p x (Node-F.Two op a b) place = first (a ∷ b ∷ [])
unknown_layer p x (Node-F.Set es) place = first es
unknown_layer p x (Node-F.Case bs) place = first bs
unknown_layer p x _ place = None

-- the first path of an expression that names no value in the instance
abbrev pub unknown_in : Program → Instance → Expr → Option Span
unknown_in p x = fold-Expr (Span → Option Span) (Option Span) (Option Span) (unknown_layer p x) (λ b. first (b.guard ∷ b.body ∷ [])) (λ e. e.node e.place)

-- an argument that is a path may name an instance too
abbrev pub unknown_argument : Program → Instance → Expr → Option Span
unknown_argument p x e = elim (path_of e) [ Some path ↦ place_if (is_none (named p x path)) e.place | None ↦ unknown_in p x e ]

-- a target that names no variable, or a path that names no value
abbrev pub unknown_in_section : Program → Instance → Section → List (Option Span)
unknown_in_section p x (section.Define name body) = unknown_in p x body ∷ []
unknown_in_section p x (section.Assign when target body) = place_if (not (is_variable (target_of p x target))) target.place ∷ unknown_in p x body ∷ []
unknown_in_section p x (section.Cond kind body) = unknown_in p x body ∷ []
unknown_in_section p x _ = []

-- the arguments of a stop, then its own entries
abbrev pub unknown_at : Program → Stop → List (Option Span)
unknown_at p s = map (unknown_argument p s.caller) s.given ++ flat_map (unknown_in_section p s.here) s.here.from.sections

-- the first path in the flat walk that names nothing, or no value or variable where one is needed
abbrev pub unknown_name : Program → Option Span
unknown_name p = first (flat_map (unknown_at p) (walk p))

-- both lead to one variable
abbrev pub same_target : Option Thing → Option Thing → Bool
same_target (Some (variable d)) (Some (variable e)) = same_name d e
same_target _ _ = false

-- two assignments to one variable, of one form or one of them `x :=`
abbrev pub excludes : Assignment → Assignment → Bool
excludes a b = same_target a.target b.target && (same_when a.when b.when || same_when a.when when.Now || same_when b.when when.Now)

-- the first assignment that one before it excludes
abbrev pub double : List Assignment → List Assignment → Option Span
double before [] = None
double before (a ∷ as') = if list_any (excludes a) before then Some a.place else double (a ∷ before) as'

-- the first second assignment in the flat walk
abbrev pub double_assign : Program → Option Span
double_assign p = double [] (assignments p (walk p))
