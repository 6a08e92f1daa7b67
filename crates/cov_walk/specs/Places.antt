-- Places of expressions as a model's definitions see them.
use Rattle.std.specs.Prelude.{pos, Bool, true, false, ◌||◌, Option, option_map}
use Rattle.std.specs.Ordering.{int_eq}
use Rattle.cov_syntax.specs.declared.tree.Value.{Value}
use Rattle.cov_syntax.specs.declared.tree.Value.TheVariants as v
use Rattle.cov_syntax.specs.declared.tree.Op2.{Op2}
use Rattle.cov_syntax.specs.declared.tree.Op2.TheVariants as op2
use Rattle.cov_kinds.specs.declared.asks.Asks.{Asks}
use Rattle.cov_kinds.specs.Seen.{asks_of}
use Rattle.cov_model.specs.Walk as walk
use Rattle.cov_walk.specs.declared.may.May.{May}

-- what may stand in a place
abbrev pub may_of : May → walk.May
may_of m = record { next = m.next; temporal = m.temporal; set = m.set }

-- what a place asks, if it asks something
abbrev pub asked : Option Asks → Option walk.Asks
asked asks = option_map asks_of asks

-- the operator `union`
abbrev pub is_union : Op2 → Bool
is_union op2.Union = true
is_union _ = false

-- the literals 0 and 1, which a Boolean place takes
abbrev pub is_bit : Value → Bool
is_bit (v.Int i) = int_eq i (pos 0) || int_eq i (pos 1)
is_bit _ = false
