-- Laws of truth sets.
use Rattle.std.specs.Prelude.{Bool, IsTrue, ◌⊎◌, ◌↔◌, List}
use Rattle.cov_logic.specs.Structure.{Structure}
use Rattle.cov_logic.specs.Formula.{Formula}
use Rattle.cov_logic.specs.Truth.{Sat}
use Rattle.cov_logic.specs.Mutant.{mutant}
use Rattle.cov_logic.specs.TruthSet.{Operations, AreExact, truth_set}
use Rattle.cov_logic.specs.Finite.{IsFinite}

-- all mutants at once: the pair of w and v is in the truth set exactly where the formula is true at v in the mutant
-- at w
abbrev pub PairsAreExact : Type 0 → Type 0 → Type 0
PairsAreExact S A = (m : Structure S) (ops : Operations S S) (same : S → S → Bool) (plain inverted : S → A → Bool)
    (f : Formula A) → AreExact m ops → (w v : S) →
    IsTrue (truth_set ops (mutant same plain inverted) f w v) ↔ Sat m (mutant same plain inverted w) f v

-- on a finite structure every formula is true or not true at each state
abbrev pub TruthIsDecided : Type 0 → Type 0 → Type 0
TruthIsDecided S A = (m : Structure S) (same : S → S → Bool) (states : List S) (label : S → A → Bool)
    (f : Formula A) (s : S) → IsFinite m same states → Sat m label f s ⊎ ¬ Sat m label f s
