-- Lassos given as two lists of states.
use Rattle.std.specs.Prelude.{ℕ, List, [], ◌∷◌}
use Rattle.cov_logic.specs.Structure.{Structure}
use Rattle.cov_logic.specs.FairLasso.{IsFair}

-- the stem and the turn are a fair lasso; an empty turn is none
abbrev pub AreFairLasso : Structure ℕ → List ℕ → List ℕ → Type 0
AreFairLasso m stem [] = ⊥
AreFairLasso m stem (s ∷ ss) = IsFair m (record { stem = stem; first = s; rest = ss })
