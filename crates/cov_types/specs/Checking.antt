-- A model whose kinds are checked.
use Rattle.std.specs.Prelude.{◌≡◌}
use Rattle.cov_model.specs.declared.model.Model.{Model}
use Rattle.cov_model.specs.Flat.{IsFlat}
use Rattle.cov_model.specs.Kinds.{Kinds}
use Rattle.cov_model.specs.Settled.{kinds_of}
use Rattle.cov_model.specs.WellFormed.{IsWellFormed}

-- the model is well formed and within the limits, and these are the kinds of its variables and DEFINEs
pub record IsChecked (m : Model) (ks : Kinds) : Type 0 where
  pub formed : IsWellFormed m
  pub flat : IsFlat m
  pub kinds : ks ≡ kinds_of m
