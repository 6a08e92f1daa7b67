-- The arguments of the stops, and the DEFINEs that they become.
use Rattle.std.specs.Prelude.{ℕ, ◌+◌, if◌then◌else◌, List, [], ◌∷◌, take, length, slice_get, is_some}
use Rattle.std.specs.Option.{option_map_or}
use Rattle.cov_syntax.specs.declared.program.TypeTree.TheVariants as type
use Rattle.cov_syntax.specs.declared.program.Section.{Section}
use Rattle.cov_syntax.specs.declared.program.Section.TheVariants as section
use Rattle.cov_syntax.specs.declared.program.Program.{Program}
use Rattle.cov_syntax.specs.declared.tree.Expr.{Expr}
use Rattle.cov_modules.specs.Things.{path_of}
use Rattle.cov_modules.specs.Walk.{Stop, walk}
use Rattle.cov_modules.specs.FlatLists.{flat_defines}

-- the arguments of the instance that a section declares
abbrev pub given_in : Section → List Expr
given_in (section.Decl name (type.Instance from given) place) = given
given_in _ = []

-- the arguments that the stop of a number is given
abbrev pub given_at : Program → ℕ → List Expr
given_at p k = option_map_or (λ (s : Stop). s.given) (slice_get (walk p) k) []

-- how many DEFINEs an argument becomes
abbrev pub defines_of : Expr → ℕ
defines_of e = if is_some (path_of e) then 0 else 1

-- how many DEFINEs arguments become
abbrev pub defines : List Expr → ℕ
defines [] = 0
defines (e ∷ es) = defines_of e + defines es

-- the number of the first DEFINE that the module of a stop declares
abbrev pub first_own : Program → ℕ → ℕ
first_own p k = length (flat_defines (take k (walk p))) + defines (given_at p k)
