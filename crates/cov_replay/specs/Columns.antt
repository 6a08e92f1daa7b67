-- Columns: one answer for each place of a lasso, whose states are listed from 0, those of the stem before those of the turn.
use Rattle.std.specs.Prelude.{◌≡◌, ℕ, ◌<◌, ◌-◌, Bool, false, IsTrue, ◌↔◌, List, slice_index_or}
use Rattle.cov_logic.specs.Lasso.{Lasso}
use Rattle.cov_logic.specs.LassoLaws.{IsNextPlace}
use Rattle.cov_logic.specs.Suffix.{suffix}
use Rattle.cov_model.specs.States.{State}

-- the answer at each of the first n places says whether what is left of the lasso there has the property
pub record IsColumn {S : Type 0} (P : Lasso S → Type 0) (l : Lasso S) (n : ℕ) (xs : List Bool) : Type 0 where
  pub by : (p : ℕ) → p < n → IsTrue (slice_index_or xs p false) ↔ P (suffix p l)

-- of n places, those of the turn from `turn` on, the answer at p is what another column has at the place after p
pub record IsNextAnswer (n turn : ℕ) (xs other : List Bool) (p : ℕ) : Type 0 where
  pub place : ℕ
  pub there : place < n
  pub follows : IsNextPlace State turn (n - turn) p place
  pub same : slice_index_or xs p false ≡ slice_index_or other place false
