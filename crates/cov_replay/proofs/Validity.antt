-- Acceptance and valid evidence.
use Rattle.std.proofs.Common.{◌≡◌, ◌↔◌, Option, Some, None, MatchOption, refl, subst}
use Rattle.cov_syntax.specs.declared.tree.Expr.{Expr}
use Rattle.cov_logic.specs.Formula.{Formula}
use Rattle.cov_model.specs.declared.model.Model.{Model}
use Rattle.cov_claims.specs.declared.evidence.Evidence.{Evidence}
use Rattle.cov_claims.specs.Claims.{specification}
use Rattle.cov_claims.specs.Valid.{IsValid, IsValidOn}
use Rattle.cov_replay.specs.declared.verdict.Verdict.{Verdict}
use Rattle.cov_replay.specs.declared.verdict.Verdict.TheVariants.{Accept, NoSuchSpec, NoSuchOccurrence, NotLinear, NotState, NotInitial, BadStep, NotClosed, Unfair, NotAt, NotRefuted}
use Rattle.cov_replay.specs.Verdicts.{IsVerdictOn, IsVerdict}

-- what all parts hold of has no other verdict
accepts : (m : Model) (e : Evidence) (f : Formula Expr) (v : Verdict) → IsVerdictOn m e f v → IsValidOn m e f → v ≡ Accept
accepts m e f Accept h valid = refl
accepts m e f NoSuchSpec h valid = absurd h
accepts m e f NoSuchOccurrence h valid = absurd (h valid.0.occurs)
accepts m e f NotLinear h valid = absurd (h.1 valid.0.linear)
accepts m e f (NotState i) h valid = absurd (h.1.fails (valid.1.states h.1.place h.1.there))
accepts m e f NotInitial h valid = absurd (h.1.1 valid.1.initial)
accepts m e f (BadStep i) h valid = absurd (h.1.2.fails (valid.1.steps h.1.2.place h.1.2.there))
accepts m e f NotClosed h valid = absurd (h.1.3 valid.1.closes)
accepts m e f (Unfair k) h valid = absurd (h.1.4.fails (valid.1.fair h.1.4.place h.1.4.there))
accepts m e f NotAt h valid = absurd (h.2 valid.2)
accepts m e f NotRefuted h valid = absurd (h.3 valid.3)

accepted_in : (m : Model) (e : Evidence) (o : Option (Formula Expr)) → MatchOption o (Accept ≡ NoSuchSpec) (λ f. IsVerdictOn m e f Accept) → MatchOption o ⊥ (IsValidOn m e)
accepted_in m e None h = absurd cc
accepted_in m e (Some f) h = h

accepts_in : (m : Model) (e : Evidence) (o : Option (Formula Expr)) (v : Verdict) → MatchOption o (v ≡ NoSuchSpec) (λ f. IsVerdictOn m e f v)
    → MatchOption o ⊥ (IsValidOn m e) → v ≡ Accept
accepts_in m e None v h valid = absurd valid
accepts_in m e (Some f) v h valid = accepts m e f v h valid

-- exactly valid evidence is accepted
pub accepts_valid : (m : Model) (e : Evidence) (v : Verdict) → IsVerdict m e v → (v ≡ Accept) ↔ IsValid m e
accepts_valid m e v h = (
  λ is. accepted_in m e (specification m e.spec) (subst (IsVerdict m e) is h),
  λ valid. accepts_in m e (specification m e.spec) v h valid,
)
