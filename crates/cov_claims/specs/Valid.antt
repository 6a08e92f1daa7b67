-- The parts of valid evidence. The states are those of the stem and then those of the turn.
use Rattle.std.specs.Prelude.{◌≡◌, ℕ, suc, ◌-◌, ◌<◌, IsTrue, [], length, slice_get, slice_index_or, Some, MatchOption}
use Rattle.cov_syntax.specs.declared.tree.Expr.{Expr}
use Rattle.cov_logic.specs.Formula.{Formula}
use Rattle.cov_logic.specs.Evidence.{Refutes}
use Rattle.cov_logic.specs.LinearFragment.{is_universal}
use Rattle.cov_model.specs.declared.model.Model.{Model}
use Rattle.cov_model.specs.declared.model.Lasso.{Lasso}
use Rattle.cov_model.specs.Paths.{structure}
use Rattle.cov_model.specs.States.{State, is_state, is_fair_at}
use Rattle.cov_claims.specs.declared.evidence.Claim.{Claim}
use Rattle.cov_claims.specs.declared.evidence.Claim.TheVariants.{Mutant, Occurrence}
use Rattle.cov_claims.specs.declared.evidence.Evidence.{Evidence}
use Rattle.cov_claims.specs.Claims.{specification, Occurs, refuted_formula, claim_labelling}
use Rattle.cov_claims.specs.Places.{lasso_of, states_of, places_of}

-- the state at a place, from 0
abbrev pub state_at : Lasso → ℕ → State
state_at l p = slice_index_or (states_of l) p []

-- at this place stands a state of the model
abbrev pub IsStateAt : Model → Lasso → ℕ → Type 0
IsStateAt m l p = IsTrue (is_state m (state_at l p))

-- the state at this place steps to the next one
abbrev pub StepsAt : Model → Lasso → ℕ → Type 0
StepsAt m l p = IsTrue ((structure m).step (state_at l p) (state_at l (suc p)))

-- the last state steps to the first of the turn
abbrev pub Closes : Model → Lasso → Type 0
Closes m l = IsTrue ((structure m).step (state_at l (places_of l - 1)) (state_at l (length l.stem)))

-- the FAIRNESS expression with this place, from 0, is true at some state of the turn
abbrev pub IsVisited : Model → Lasso → ℕ → Type 0
IsVisited m l k = (j : ℕ) × (j < length l.turn) × IsTrue (is_fair_at m k (slice_index_or l.turn j []))

-- the states are a fair lasso from an initial state
pub record IsRun (m : Model) (l : Lasso) : Type 0 where
  pub states : (p : ℕ) → p < places_of l → IsStateAt m l p
  pub initial : IsTrue ((structure m).initial (state_at l 0))
  pub steps : (p : ℕ) → p < places_of l - 1 → StepsAt m l p
  pub closes : Closes m l
  pub fair : (k : ℕ) → k < length m.fair → IsVisited m l k

-- what is claimed of the specification f can be refuted_formula, and one lasso can tell that the refuted formula is false
pub record IsClaim (claim : Claim) (f : Formula Expr) : Type 0 where
  pub occurs : Occurs claim f
  pub linear : IsTrue (is_universal (refuted_formula claim f))

-- the state of a mutant is one of the states
abbrev pub GoesThrough : Claim → Lasso → Type 0
GoesThrough (Mutant q w) l = (p : ℕ) × (slice_get (states_of l) p ≡ Some w)
GoesThrough (Occurrence n) l = Unit {0}

-- the lasso refutes the refuted formula, as the claim reads its atoms
abbrev pub IsRefuted : Model → Evidence → Formula Expr → Type 0
IsRefuted m e f = Refutes (claim_labelling m e.claim) (refuted_formula e.claim f) (lasso_of e.lasso)

-- what is claimed of the specification f is proved by the lasso: all parts hold
abbrev pub IsValidOn : Model → Evidence → Formula Expr → Type 0
IsValidOn m e f = IsClaim e.claim f × IsRun m e.lasso × GoesThrough e.claim e.lasso × IsRefuted m e f

-- the evidence is valid: its number names a specification, and all parts hold of it
abbrev pub IsValid : Model → Evidence → Type 0
IsValid m e = MatchOption (specification m e.spec) ⊥ (IsValidOn m e)
