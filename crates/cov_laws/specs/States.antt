-- Laws of the states of a model.
use Rattle.std.specs.Prelude.{ℕ, zero, suc, Bool, IsTrue, ◌⊎◌, ◌↔◌, List, [], ◌∷◌, map, length}
use Rattle.std.specs.List.{flat_map}
use Rattle.std.specs.Str.{bytes_eq}
use Rattle.cov_logic.specs.Lasso.{Lasso}
use Rattle.cov_logic.specs.FairLasso.{IsFairFrom}
use Rattle.cov_logic.specs.Finite.{IsFinite}
use Rattle.cov_logic.specs.Formula.{Formula, And}
use Rattle.cov_logic.specs.Verdict.{Passes}
use Rattle.cov_logic.specs.Covered.{IsCovered}
use Rattle.cov_logic.specs.Evidence.{Refutes}
use Rattle.cov_logic.specs.LinearFragment.{is_universal}
use Rattle.cov_model.specs.declared.model.Model.{Model}
use Rattle.cov_model.specs.declared.model.Var.{Var}
use Rattle.cov_model.specs.Paths.{structure}
use Rattle.cov_model.specs.States.{State, is_initial}

-- the numbers below this one
abbrev pub numbers_below : ℕ → List ℕ
numbers_below zero = []
numbers_below (suc n) = n ∷ numbers_below n

-- every list of value places, one for each variable
abbrev pub typed_states : List Var → List State
typed_states [] = [] ∷ []
typed_states (x ∷ xs) = flat_map (λ i. map (λ s. i ∷ s) (typed_states xs)) (numbers_below (length x.values))

-- the structure of a model is finite; so, under every labelling, a linear universal formula that does not pass is
-- refuted by a fair lasso from an initial state, and a conjunction whose sides pass covers exactly what one of them covers
pub record ModelsAreFinite (A : Type 0) : Type 0 where
  pub finite : (m : Model) → IsFinite (structure m) bytes_eq (typed_states m.vars)
  pub refuted : (m : Model) (label : State → A → Bool) (f : Formula A) → IsTrue (is_universal f) →
      ¬ Passes (structure m) label f →
      (s : State) × (l : Lasso State) × IsTrue (is_initial m s) × IsFairFrom (structure m) s l × Refutes label f l
  pub conjunction : (m : Model) (plain inverted : State → A → Bool) (f g : Formula A) (w : State) →
      Passes (structure m) plain f → Passes (structure m) plain g →
      IsCovered bytes_eq (structure m) plain inverted (And f g) w
      ↔ (IsCovered bytes_eq (structure m) plain inverted f w ⊎ IsCovered bytes_eq (structure m) plain inverted g w)
