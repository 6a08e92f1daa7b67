-- The suffixes of a lasso, and its states.
use Rattle.std.specs.Prelude.{ℕ, zero, suc, List, [], ◌∷◌}
use Rattle.cov_logic.specs.Lasso.{Lasso, first_of}

-- the lasso without its first state; where the stem is used up, the rest of the turn becomes the stem
abbrev pub behind : {S : Type 0} → List S → S → List S → Lasso S
behind [] first rest = record { stem = rest; first = first; rest = rest }
behind (s ∷ ss) first rest = record { stem = ss; first = first; rest = rest }

-- the lasso without its first k states
abbrev pub suffix : {S : Type 0} → ℕ → Lasso S → Lasso S
suffix zero l = l
suffix (suc k) l = suffix k (behind l.stem l.first l.rest)

-- the i-th state, from 0
abbrev pub at : {S : Type 0} → Lasso S → ℕ → S
at l i = let k = suffix i l in first_of k.stem k.first
