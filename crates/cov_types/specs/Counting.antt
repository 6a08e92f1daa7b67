-- A checked model whose sets are counted.
use Rattle.std.specs.Prelude.{◌≡◌, ◌<◌, ◌^◌, ℕ}
use Rattle.cov_model.specs.declared.model.Model.{Model}
use Rattle.cov_model.specs.Kinds.{Kinds}
use Rattle.cov_types.specs.Checking.{IsChecked}
use Rattle.cov_types.specs.Roots.{roots}

-- the model is checked, these are its kinds, and this number, of 32 bits, is that of the sets that the engine may hold for it
pub record IsCounted (m : Model) (ks : Kinds) (count : ℕ) : Type 0 where
  pub checked : IsChecked m ks
  pub counted : count ≡ roots m
  pub small : count < 2 ^ 32
