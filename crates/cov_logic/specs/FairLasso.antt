-- Fair lassos: those of the structure that meet each fairness set again and again (Emerson and Lei 1986).
use Rattle.std.specs.Prelude.{◌≡◌, IsTrue, ◌∷◌}
use Rattle.std.specs.List.{AllByRecursion, list_any}
use Rattle.cov_logic.specs.Structure.{Structure}
use Rattle.cov_logic.specs.Lasso.{Lasso, Leads}
use Rattle.cov_logic.specs.Suffix.{at}

-- the stem leads to the turn, the turn leads back to its first state, and each fairness set has some state of the turn
pub record IsFair {S : Type 0} (m : Structure S) (l : Lasso S) : Type 0 where
  pub stem : Leads m l.stem l.first
  pub turn : Leads m (l.first ∷ l.rest) l.first
  pub visits : AllByRecursion (λ f. IsTrue (list_any f (l.first ∷ l.rest))) m.fair

-- a fair lasso that begins at s
pub record IsFairFrom {S : Type 0} (m : Structure S) (s : S) (l : Lasso S) : Type 0 where
  pub starts : at l 0 ≡ s
  pub fair : IsFair m l

-- some fair lasso begins at s
abbrev pub StartsFair : {S : Type 0} → Structure S → S → Type 0
StartsFair {S} m s = (l : Lasso S) × IsFairFrom m s l
