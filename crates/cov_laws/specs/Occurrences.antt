-- Laws of the occurrences of a formula.
use Rattle.std.specs.Prelude.{◌≡◌, ℕ, ◌+◌, ◌-◌, ◌<◌, ◌≤◌, List, [], ◌∷◌, ◌++◌, length, slice_get, Some, None}
use Rattle.cov_logic.specs.Formula.{Formula, Atom, Not, And, Or, Implies, EX, EF, EG, EU, AX, AF, AG, AU}
use Rattle.cov_logic.specs.Occurrence.{size, IsOccurrence, occurrence}
use Rattle.cov_logic.specs.Replacement.{replace}

-- the formula and all below it, each before what is below it, left before right
abbrev pub listed : {A : Type 0} → Formula A → List (Formula A)
listed (Atom a) = Atom a ∷ []
listed (Not f) = Not f ∷ listed f
listed (And f g) = And f g ∷ (listed f ++ listed g)
listed (Or f g) = Or f g ∷ (listed f ++ listed g)
listed (Implies f g) = Implies f g ∷ (listed f ++ listed g)
listed (EX f) = EX f ∷ listed f
listed (EF f) = EF f ∷ listed f
listed (EG f) = EG f ∷ listed f
listed (EU f g) = EU f g ∷ (listed f ++ listed g)
listed (AX f) = AX f ∷ listed f
listed (AF f) = AF f ∷ listed f
listed (AG f) = AG f ∷ listed f
listed (AU f g) = AU f g ∷ (listed f ++ listed g)

-- the occurrences are the entries of the list, numbered from 1, and the size is its length
pub record OccurrencesAreListed (A : Type 0) : Type 0 where
  pub entries : (f : Formula A) (i : ℕ) → occurrence f (i + 1) ≡ slice_get (listed f) i
  pub none : (f : Formula A) → occurrence f 0 ≡ None
  pub all : (f : Formula A) → length (listed f) ≡ size f

-- with x in the place of occurrence n, which is old: x stands there, and what is below it stands below it; each
-- occurrence before has x where n was below it, and is otherwise as it was; those behind are as they were, at other
-- numbers where the sizes differ
pub record ReplacedStands (A : Type 0) : Type 0 where
  pub there : (f x : Formula A) (n : ℕ) → IsOccurrence f n → occurrence (replace f n x) n ≡ Some x
  pub below : (f x : Formula A) (n k : ℕ) → IsOccurrence f n → k < size x →
      occurrence (replace f n x) (n + k) ≡ occurrence x (k + 1)
  pub before : (f x y : Formula A) (n k : ℕ) → IsOccurrence f n → k ≤ n → occurrence f k ≡ Some y →
      occurrence (replace f n x) k ≡ Some (replace y (n + 1 - k) x)
  pub behind : (f x old : Formula A) (n k : ℕ) → occurrence f n ≡ Some old → n ≤ k →
      occurrence (replace f n x) (k + size x) ≡ occurrence f (k + size old)
  pub resized : (f x old : Formula A) (n : ℕ) → occurrence f n ≡ Some old →
      size (replace f n x) + size old ≡ size f + size x
