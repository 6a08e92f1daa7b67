-- The lasso of evidence as a lasso of the logic, and its places.
use Rattle.std.specs.Prelude.{ℕ, ◌+◌, List, [], ◌∷◌, ◌++◌, length}
use Rattle.cov_logic.specs.Lasso as logic
use Rattle.cov_model.specs.declared.model.Lasso.{Lasso}
use Rattle.cov_model.specs.States.{State}

-- the stem, and then the turn; a turn without states is none of a lasso
abbrev pub turned : List State → List State → logic.Lasso State
turned stem [] = record { stem = stem; first = []; rest = [] }
turned stem (first ∷ rest) = record { stem = stem; first = first; rest = rest }

-- the lasso
abbrev pub lasso_of : Lasso → logic.Lasso State
lasso_of l = turned l.stem l.turn

-- the states of the stem, and then those of the turn
abbrev pub states_of : Lasso → List State
states_of l = l.stem ++ l.turn

-- how many they are
abbrev pub places_of : Lasso → ℕ
places_of l = length l.stem + length l.turn
