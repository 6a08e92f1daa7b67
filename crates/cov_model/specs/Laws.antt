-- What the kinds promise: every value and every choice of an expression is of its kind, and a machine with numbers of 32 bits makes the same of it.
use Rattle.std.specs.Prelude.{◌≡◌, ℕ, Bool, true, false, IsTrue, IsFalse}
use Rattle.cov_syntax.specs.declared.tree.Value.{Value}
use Rattle.cov_model.specs.Meaning.{Readings, Point, Meaning, variable, define}
use Rattle.cov_model.specs.Kinds.{Kind, boolean, Kinds, kind_at, of_kind}
use Rattle.cov_model.specs.Walk.{May}

-- each reading is a value of its kind
pub record ReadsKinds (ks : Kinds) (r : Readings) : Type 0 where
  pub vars : (i : ℕ) → IsTrue (of_kind (kind_at ks.vars i) (variable r i))
  pub defs : (i : ℕ) → IsTrue (of_kind (kind_at ks.defs i) (define r i))

-- in a Boolean place an expression is Boolean, and elsewhere of its own kind
abbrev pub kind_in : Bool → Kind → Kind
kind_in true k = boolean
kind_in false k = k

-- at this point a meaning keeps a kind, and what the machine makes is the same; where a set may stand only choices are of the kind
pub record Keeps (k : Kind) (may : May) (whole machine : Meaning) (p : Point) : Type 0 where
  pub choices : (x : Value) → IsTrue (whole.allows p x) → IsTrue (of_kind k x)
  pub value_of : IsFalse may.set → IsTrue (of_kind k (whole.value p))
  pub same_choices : (x : Value) → machine.allows p x ≡ whole.allows p x
  pub same_value : machine.value p ≡ whole.value p
