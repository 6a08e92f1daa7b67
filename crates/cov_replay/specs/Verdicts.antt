-- The verdict on evidence: the first part of valid evidence that fails.
use Rattle.std.specs.Prelude.{◌≡◌, ℕ, suc, ◌-◌, ◌<◌, IsTrue, length, MatchOption}
use Rattle.cov_syntax.specs.declared.tree.Expr.{Expr}
use Rattle.cov_logic.specs.Formula.{Formula}
use Rattle.cov_logic.specs.LinearFragment.{is_universal}
use Rattle.cov_logic.specs.Verdict.{Passes}
use Rattle.cov_model.specs.declared.model.Model.{Model}
use Rattle.cov_model.specs.declared.model.Lasso.{Lasso}
use Rattle.cov_model.specs.Paths.{structure, IsReachable}
use Rattle.cov_claims.specs.declared.evidence.Claim.{Claim}
use Rattle.cov_claims.specs.declared.evidence.Claim.TheVariants.{Mutant, Occurrence}
use Rattle.cov_claims.specs.declared.evidence.Evidence.{Evidence}
use Rattle.cov_replay.specs.declared.verdict.Verdict.{Verdict}
use Rattle.cov_replay.specs.declared.verdict.Verdict.TheVariants.{Accept, NoSuchSpec, NoSuchOccurrence, NotLinear, NotState, NotInitial, BadStep, NotClosed, Unfair, NotAt, NotRefuted}
use Rattle.cov_claims.specs.Claims.{specification, Occurs, refuted_formula, claim_labelling}
use Rattle.cov_claims.specs.Places.{places_of}
use Rattle.cov_claims.specs.Valid.{state_at, IsStateAt, StepsAt, Closes, IsVisited, IsRun, IsClaim, GoesThrough, IsRefuted, IsValidOn}

-- of the n places the first at which P fails has this number, from 1
pub record FailsFirst (P : ℕ → Type 0) (n i : ℕ) : Type 0 where
  pub place : ℕ
  pub numbered : i ≡ suc place
  pub there : place < n
  pub fails : P place → ⊥
  pub before : (p : ℕ) → p < place → P p

-- every place has P
abbrev pub Each : (ℕ → Type 0) → ℕ → Type 0
Each P n = (p : ℕ) → p < n → P p

-- what is wrong with the states; the parts before it hold
abbrev pub IsRunFault : Model → Lasso → Verdict → Type 0
IsRunFault m l (NotState i) = FailsFirst (IsStateAt m l) (places_of l) i
IsRunFault m l NotInitial = Each (IsStateAt m l) (places_of l) × ¬ IsTrue ((structure m).initial (state_at l 0))
IsRunFault m l (BadStep i) =
    Each (IsStateAt m l) (places_of l) × IsTrue ((structure m).initial (state_at l 0)) × FailsFirst (StepsAt m l) (places_of l - 1) i
IsRunFault m l NotClosed =
    Each (IsStateAt m l) (places_of l) × IsTrue ((structure m).initial (state_at l 0)) × Each (StepsAt m l) (places_of l - 1)
    × ¬ Closes m l
IsRunFault m l (Unfair k) =
    Each (IsStateAt m l) (places_of l) × IsTrue ((structure m).initial (state_at l 0)) × Each (StepsAt m l) (places_of l - 1)
    × Closes m l × FailsFirst (IsVisited m l) (length m.fair) k
IsRunFault m l _ = ⊥

-- the verdict where the specification is f; a fault of the states stands behind those of the claim
abbrev pub IsVerdictOn : Model → Evidence → Formula Expr → Verdict → Type 0
IsVerdictOn m e f NoSuchSpec = ⊥
IsVerdictOn m e f NoSuchOccurrence = ¬ Occurs e.claim f
IsVerdictOn m e f NotLinear = Occurs e.claim f × ¬ IsTrue (is_universal (refuted_formula e.claim f))
IsVerdictOn m e f NotAt = IsClaim e.claim f × IsRun m e.lasso × ¬ GoesThrough e.claim e.lasso
IsVerdictOn m e f NotRefuted = IsClaim e.claim f × IsRun m e.lasso × GoesThrough e.claim e.lasso × ¬ IsRefuted m e f
IsVerdictOn m e f Accept = IsValidOn m e f
IsVerdictOn m e f v = IsClaim e.claim f × IsRunFault m e.lasso v

-- the verdict: a part that fails is answered where all parts before it hold, and acceptance where all hold
abbrev pub IsVerdict : Model → Evidence → Verdict → Type 0
IsVerdict m e v = MatchOption (specification m e.spec) (v ≡ NoSuchSpec) (λ f. IsVerdictOn m e f v)
