-- Lassos: the infinite paths that a finite structure needs. That a formula speaks of these alone is this project's
-- choice.
use Rattle.std.specs.Prelude.{IsTrue, List, [], ◌∷◌}
use Rattle.cov_logic.specs.Structure.{Structure}

-- a stem, and then a turn that is repeated for ever; the turn is its first state and the rest, so it is not empty
pub record Lasso (S : Type 0) : Type 0 where
  pub stem : List S
  pub first : S
  pub rest : List S

-- the first state of the list, or of what comes after it
abbrev pub first_of : {S : Type 0} → List S → S → S
first_of [] after = after
first_of (s ∷ ss) after = s

-- each state of the list steps to the next one, and the last to the state after the list
abbrev pub Leads : {S : Type 0} → Structure S → List S → S → Type 0
Leads m [] after = Unit {0}
Leads m (s ∷ ss) after = IsTrue (m.step s (first_of ss after)) × Leads m ss after
