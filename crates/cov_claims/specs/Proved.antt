-- What valid evidence proves.
use Rattle.std.specs.Prelude.{MatchOption}
use Rattle.cov_logic.specs.Verdict.{Passes}
use Rattle.cov_model.specs.declared.model.Model.{Model}
use Rattle.cov_model.specs.Paths.{structure, IsReachable}
use Rattle.cov_claims.specs.declared.evidence.Claim.{Claim}
use Rattle.cov_claims.specs.declared.evidence.Claim.TheVariants.{Mutant, Occurrence}
use Rattle.cov_claims.specs.declared.evidence.Evidence.{Evidence}
use Rattle.cov_claims.specs.Claims.{specification, refuted_formula, claim_labelling}

-- the state of a mutant is reachable
abbrev pub IsReached : Model → Claim → Type 0
IsReached m (Mutant q w) = IsReachable m w
IsReached m (Occurrence n) = Unit {0}

-- what is accepted is so: the refuted formula does not pass as the claim reads its atoms
abbrev pub IsProved : Model → Evidence → Type 0
IsProved m e =
    MatchOption (specification m e.spec) ⊥
    (λ f. (Passes (structure m) (claim_labelling m e.claim) (refuted_formula e.claim f) → ⊥) × IsReached m e.claim)
