-- Kinds as the language has them, and as a model's contracts see them.
use Rattle.std.specs.Prelude.{◌≡◌, Bool, not, ◌&&◌, IsTrue, IsFalse, nat_lt, Option, Some, None, List, map}
use Rattle.cov_model.specs.Kinds as k
use Rattle.cov_model.specs.Walk as w
use Rattle.cov_kinds.specs.declared.kind.Interval.{Interval}
use Rattle.cov_kinds.specs.declared.kind.Kind.{Kind}
use Rattle.cov_kinds.specs.declared.kind.Kind.TheVariants as v
use Rattle.cov_kinds.specs.declared.asks.Asks.{Asks}
use Rattle.cov_kinds.specs.declared.asks.Asks.TheVariants as a

-- an interval as contracts see it
abbrev pub seen_interval : Interval → k.Kind
seen_interval i = k.interval i.low i.high

-- a kind as contracts see it
abbrev pub seen : Kind → k.Kind
seen v.Boolean = k.boolean
seen (v.Interval i) = seen_interval i
seen (v.Among xs) = k.among xs

-- the kinds of variables and DEFINEs as contracts see them
abbrev pub kinds_seen : List Kind → List Kind → k.Kinds
kinds_seen vars defs = record { vars = map seen vars; defs = map seen defs }

-- what a place asks, as contracts see it
abbrev pub asks_of : Asks → w.Asks
asks_of a.Truth = w.truth
asks_of a.Number = w.number
asks_of a.NoTruth = w.no_truth

-- the kind, or none where it is too wide
abbrev pub IsKindOrWide : Option Kind → k.Kind → Type 0
IsKindOrWide (Some x) y = (seen x ≡ y) × IsFalse (w.is_wide y)
IsKindOrWide None y = IsTrue (w.is_wide y)

-- the kind, or none where it has more than 1,024 values
abbrev pub IsKindOrLong : Option Kind → k.Kind → Type 0
IsKindOrLong (Some x) y = (seen x ≡ y) × IsFalse (w.is_wide y)
IsKindOrLong None y = IsTrue (nat_lt 1024 (k.width y))

-- a kind other than Boolean that is not too wide
abbrev pub is_joinable : k.Kind → Bool
is_joinable x = not (k.is_boolean x) && not (w.is_wide x)
