-- Targets, and the things that they are.
use Rattle.std.specs.Prelude.{◌≡◌, ℕ, IsTrue, slice_get, is_some, option_map, Option, Some, None}
use Rattle.std.specs.Option.{option_map_or}
use Rattle.cov_syntax.specs.declared.program.Program.{Program}
use Rattle.cov_modules.specs.Names.{Dotted}
use Rattle.cov_modules.specs.Things.{Thing, variable, define, instance, symbol, named}
use Rattle.cov_modules.specs.Walk.{Stop, walk}
use Rattle.cov_modules.specs.FlatLists.{index_of}
use Rattle.cov_paths.specs.declared.target.Target.{Target}
use Rattle.cov_paths.specs.declared.target.Target.TheVariants as target

-- the thing of a number
abbrev pub thing_of : Program → Target → Option Thing
thing_of p (target.Variable i) = option_map variable (slice_get (index_of p).vars i)
thing_of p (target.Define i) = option_map define (slice_get (index_of p).defs i)
thing_of p (target.Instance k) = option_map (λ (s : Stop). instance s.here.name s.here.from) (slice_get (walk p) k)
thing_of p (target.Symbol i) = Some (symbol i)

-- what a path names in the stop of a number
abbrev pub named_at : Program → ℕ → Dotted → Option Thing
named_at p k path = option_map_or (λ (s : Stop). named p s.here path) (slice_get (walk p) k) None

-- the target is the thing, or there is neither
abbrev pub IsNamed : Program → Option Target → Option Thing → Type 0
IsNamed p None t = t ≡ None
IsNamed p (Some x) t = (thing_of p x ≡ t) × IsTrue (is_some t)
