-- The verdict on a formula. That only initial states with a fair lasso are asked is this project's choice.
use Rattle.std.specs.Prelude.{Bool, IsTrue}
use Rattle.cov_logic.specs.Structure.{Structure}
use Rattle.cov_logic.specs.Lasso.{Lasso}
use Rattle.cov_logic.specs.FairLasso.{IsFairFrom}
use Rattle.cov_logic.specs.Formula.{Formula}
use Rattle.cov_logic.specs.Truth.{Sat}

-- the formula is true at each initial state from which a fair lasso starts
abbrev pub Passes : {S A : Type 0} → Structure S → (S → A → Bool) → Formula A → Type 0
Passes {S} m label f = (s : S) (l : Lasso S) → IsTrue (m.initial s) → IsFairFrom m s l → Sat m label f s
