-- What stands before a formula is judged along a lasso.
use Rattle.std.specs.Prelude.{ℕ, ◌<◌, ◌≤◌, ◌^◌, IsTrue, length, slice_index_or, []}
use Rattle.cov_syntax.specs.declared.tree.Expr.{Expr}
use Rattle.cov_logic.specs.Formula.{Formula}
use Rattle.cov_model.specs.declared.model.Model.{Model}
use Rattle.cov_model.specs.declared.model.Lasso.{Lasso}
use Rattle.cov_model.specs.Atoms.{IsAtomOf}
use Rattle.cov_model.specs.States.{is_typed}
use Rattle.cov_model.specs.WellFormed.{IsWellFormed}
use Rattle.cov_replay.specs.Heights.{height}
use Rattle.cov_claims.specs.Places.{states_of, places_of}
use Rattle.cov_formulas.specs.Formulas.{AllAtoms}

-- the states are typed, the turn is not empty, and there are fewer than 2^32 places
pub record IsPlain (m : Model) (l : Lasso) : Type 0 where
  pub formed : IsWellFormed m
  pub typed : (p : ℕ) → p < places_of l → IsTrue (is_typed m (slice_index_or (states_of l) p []))
  pub turn : 0 < length l.turn
  pub few : places_of l < 2 ^ 32

-- its atoms are of the model, and it is no higher than this
pub record IsAsked (m : Model) (f : Formula Expr) (levels : ℕ) : Type 0 where
  pub atoms : AllAtoms (IsAtomOf m) f
  pub low : height f ≤ levels
