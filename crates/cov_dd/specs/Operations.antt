-- What the operations make of functions.
use Rattle.std.specs.Prelude.{◌≡◌, ℕ, length, suc, zero, List, [], ◌∷◌, Bool, true, false, ◌&&◌, ◌||◌, not, if◌then◌else◌}
use Rattle.cov_dd.specs.declared.node.Ref.{Ref}
use Rattle.cov_dd.specs.declared.operations.Op.{Op}
use Rattle.cov_dd.specs.declared.operations.Op.TheVariants.{And, Or, Xor}
use Rattle.cov_dd.specs.Nodes.{TableOf, den, top_of, IsLive, IsTable, Denotes}

-- what an operation makes of two bits
abbrev pub value_of : Op → Bool → Bool → Bool
value_of And a b = a && b
value_of Or a b = a || b
value_of Xor a b = if a then not b else b

-- an operation on two functions
abbrev pub applied : Op → (List Bool → Bool) → (List Bool → Bool) → List Bool → Bool
applied op f g row = value_of op (f row) (g row)

-- the negation of a function
abbrev pub negated : (List Bool → Bool) → List Bool → Bool
negated f row = not (f row)

-- a row with one bit written, also behind its end
abbrev pub put : List Bool → ℕ → Bool → List Bool
put [] zero b = b ∷ []
put [] (suc k) b = false ∷ put [] k b
put (x ∷ row) zero b = b ∷ row
put (x ∷ row) (suc k) b = x ∷ put row k b

-- a function with one bit fixed
abbrev pub restricted : ℕ → Bool → (List Bool → Bool) → List Bool → Bool
restricted level bit f row = f (put row level bit)

-- rows that differ at this level alone have one value
abbrev pub Ignores : ℕ → ℕ → (List Bool → Bool) → Type 0
Ignores levels level f = (row : List Bool) → length row ≡ levels → f (put row level false) ≡ f (put row level true)

-- in every table r is a diagram of the operation on f and g
abbrev pub IsKnown : Op → Ref → Ref → Ref → Type 0
IsKnown op f g r = (t : TableOf) → IsTable t.levels t.nodes → IsLive t.nodes f → IsLive t.nodes g → Denotes t (top_of t f g) r (applied op (den t.nodes f) (den t.nodes g))
