-- The two things that one lasso tells of a formula.
use Rattle.std.specs.Prelude.{◌≡◌, ℕ, ◌+◌, suc, Bool, true, false, length}
use Rattle.cov_logic.specs.Lasso.{Lasso}
use Rattle.cov_logic.specs.Formula.{Formula}
use Rattle.cov_logic.specs.Evidence.{Refutes, Shows}

-- the lasso shows the formula, or it refutes it
abbrev pub Tells : {S A : Type 0} → (S → A → Bool) → Bool → Formula A → Lasso S → Type 0
Tells label true f l = Shows label f l
Tells label false f l = Refutes label f l

-- the lasso has n places, and this is that of the first state of its turn
pub record HasPlaces {S : Type 0} (l : Lasso S) (n turn : ℕ) : Type 0 where
  pub stem : length l.stem ≡ turn
  pub whole : length l.stem + suc (length l.rest) ≡ n
