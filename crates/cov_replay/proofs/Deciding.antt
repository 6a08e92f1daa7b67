-- Verdicts from what is found of the parts.
use Rattle.std.proofs.Common.{◌≡◌, ◌<◌, ◌↔◌, Bool, true, false, List, IsTrue, length, get_or, Option, Some, None, MatchOption, refl, sym, ap, ◌∙◌, subst}
use Rattle.std.proofs.lemmas.Bool.{false≢true}
use Rattle.cov_syntax.specs.declared.tree.Expr.{Expr}
use Rattle.cov_logic.specs.Formula.{Formula}
use Rattle.cov_logic.specs.LinearFragment.{is_universal}
use Rattle.cov_logic.specs.Reachable.{Reachable}
use Rattle.cov_logic.specs.Verdict.{Passes}
use Rattle.cov_logic.specs.Suffix.{at}
use Rattle.cov_logic.specs.Evidence.{Refutes}
use Rattle.cov_logic.proofs.MutantStates.{reachable_at, reachable_start}
use Rattle.cov_logic.proofs.Refutations.{refuted_law}
use Rattle.cov_logic.proofs.Suffixes.{from_start}
use Rattle.cov_ctl.specs.declared.formula.Formula as ctl
use Rattle.cov_ctl.specs.Formulas.{formula_of}
use Rattle.cov_model.specs.declared.model.Model.{Model}
use Rattle.cov_model.specs.declared.model.Lasso.{Lasso}
use Rattle.cov_model.specs.Paths.{structure}
use Rattle.cov_claims.specs.declared.evidence.Claim.{Claim}
use Rattle.cov_claims.specs.declared.evidence.Claim.TheVariants.{Mutant, Occurrence}
use Rattle.cov_claims.specs.declared.evidence.Evidence.{Evidence}
use Rattle.cov_replay.specs.declared.verdict.Verdict.{Verdict}
use Rattle.cov_replay.specs.declared.verdict.Verdict.TheVariants.{Accept, NoSuchSpec, NoSuchOccurrence, NotLinear, NotState, NotInitial, BadStep, NotClosed, Unfair, NotAt, NotRefuted}
use Rattle.cov_replay.specs.Benches.{IsClaimed, NamesNothing}
use Rattle.cov_claims.specs.Claims.{specification, refuted_formula, claim_labelling}
use Rattle.cov_replay.specs.Columns.{IsColumn}
use Rattle.cov_claims.specs.Places.{lasso_of, places_of}
use Rattle.cov_replay.specs.Told.{Tells}
use Rattle.cov_claims.specs.Valid.{IsRun, IsClaim, GoesThrough, IsRefuted}
use Rattle.cov_replay.specs.Verdicts.{IsRunFault, IsVerdictOn, IsVerdict}
use Rattle.cov_claims.specs.Proved.{IsProved, IsReached}
use Rattle.cov_replay.proofs.AtPlaces.{at_place}
use Rattle.cov_replay.proofs.Runs.{run_fair, run_initial}

on_spec : (m : Model) (e : Evidence) (f : Formula Expr) (v : Verdict) → specification m e.spec ≡ Some f → IsVerdictOn m e f v → IsVerdict m e v
on_spec m e f v named h = subst (λ o. MatchOption o (v ≡ NoSuchSpec) (λ g. IsVerdictOn m e g v)) (sym named) h

pub no_spec : (m : Model) (e : Evidence) → specification m e.spec ≡ None → IsVerdict m e NoSuchSpec
no_spec m e named = subst (λ o. MatchOption o (NoSuchSpec ≡ NoSuchSpec) (λ g. IsVerdictOn m e g NoSuchSpec)) (sym named) refl

pub no_occurrence : (m : Model) (e : Evidence) → NamesNothing m e → IsVerdict m e NoSuchOccurrence
no_occurrence m e h = on_spec m e h.spec NoSuchOccurrence h.named h.none

module _ (m : Model) (e : Evidence) (g : ctl.Formula) (h : IsClaimed m e g) (linear : Bool) (is_linear : linear ≡ is_universal (formula_of g)) where
  pub not_linear : linear ≡ false → IsVerdict m e NotLinear
  not_linear fails =
      on_spec m e h.spec NotLinear h.named
      (h.occurs, λ t. false≢true (sym fails ∙ is_linear ∙ ap is_universal h.is ∙ t))

  claim_of : linear ≡ true → IsClaim e.claim h.spec
  claim_of held = record { occurs = h.occurs; linear = ap is_universal (sym h.is) ∙ sym is_linear ∙ held }

  fault_on : (v : Verdict) → IsClaim e.claim h.spec → IsRunFault m e.lasso v → IsVerdictOn m e h.spec v
  fault_on Accept c f = absurd f
  fault_on NoSuchSpec c f = absurd f
  fault_on NoSuchOccurrence c f = absurd f
  fault_on NotLinear c f = absurd f
  fault_on (NotState i) c f = (c, f)
  fault_on NotInitial c f = (c, f)
  fault_on (BadStep i) c f = (c, f)
  fault_on NotClosed c f = (c, f)
  fault_on (Unfair k) c f = (c, f)
  fault_on NotAt c f = absurd f
  fault_on NotRefuted c f = absurd f

  pub faulty : (v : Verdict) → linear ≡ true → IsRunFault m e.lasso v → IsVerdict m e v
  faulty v held f = on_spec m e h.spec v h.named (fault_on v (claim_of held) f)

  pub not_at : linear ≡ true → IsRun m e.lasso → (GoesThrough e.claim e.lasso → ⊥) → IsVerdict m e NotAt
  not_at held run never = on_spec m e h.spec NotAt h.named (claim_of held, run, never)

  -- the first cell of the column says whether the lasso refutes the claimed formula
  refuted : (cells : List Bool) → 0 < places_of e.lasso
      → IsColumn (Tells (claim_labelling m e.claim) false (formula_of g)) (lasso_of e.lasso) (places_of e.lasso) cells
      → IsTrue (get_or cells 0 false) ↔ IsRefuted m e h.spec
  refuted cells some column =
      subst (λ (f : Formula Expr). IsTrue (get_or cells 0 false) ↔ Refutes (claim_labelling m e.claim) f (lasso_of e.lasso)) h.is (column.by 0 some)

  pub accepted : (cells : List Bool) → linear ≡ true → IsRun m e.lasso → GoesThrough e.claim e.lasso → 0 < places_of e.lasso
      → IsColumn (Tells (claim_labelling m e.claim) false (formula_of g)) (lasso_of e.lasso) (places_of e.lasso) cells
      → get_or cells 0 false ≡ true → IsVerdict m e Accept
  accepted cells held run goes some column t = on_spec m e h.spec Accept h.named (claim_of held, run, goes, (refuted cells some column).0 t)

  pub not_refuted : (cells : List Bool) → linear ≡ true → IsRun m e.lasso → GoesThrough e.claim e.lasso → 0 < places_of e.lasso
      → IsColumn (Tells (claim_labelling m e.claim) false (formula_of g)) (lasso_of e.lasso) (places_of e.lasso) cells
      → get_or cells 0 false ≡ false → IsVerdict m e NotRefuted
  not_refuted cells held run goes some column t =
      on_spec m e h.spec NotRefuted h.named (claim_of held, run, goes, λ r. false≢true (sym t ∙ (refuted cells some column).1 r))

reached : (m : Model) (claim : Claim) (l : Lasso) → 0 < length l.turn → IsRun m l → GoesThrough claim l → IsReached m claim
reached m (Mutant q w) l some run goes =
    subst (Reachable (structure m)) (at_place l goes.0 w some goes.1)
    (reachable_at (structure m) goes.0 (lasso_of l) (run_fair m l some run) (reachable_start (structure m) (at (lasso_of l) 0) (run_initial m l some run)))
reached m (Occurrence n) l some run goes = tt

proved_on : (m : Model) (e : Evidence) (o : Option (Formula Expr)) → 0 < length e.lasso.turn
    → MatchOption o (Accept ≡ NoSuchSpec) (λ f. IsVerdictOn m e f Accept)
    → MatchOption o ⊥ (λ f. (Passes (structure m) (claim_labelling m e.claim) (refuted_formula e.claim f) → ⊥) × IsReached m e.claim)
proved_on m e None some v = cc
proved_on m e (Some f) some v =
    let l = lasso_of e.lasso in (
      refuted_law _ _ (structure m) (claim_labelling m e.claim) (refuted_formula e.claim f) (at l 0) l (run_initial m e.lasso some v.1)
          (from_start l (run_fair m e.lasso some v.1)) v.3,
      reached m e.claim e.lasso some v.1 v.2,
    )

-- acceptance proves the claim
pub proved : (m : Model) (e : Evidence) (v : Verdict) → 0 < length e.lasso.turn → IsVerdict m e v → v ≡ Accept → IsProved m e
proved m e v some h is = proved_on m e (specification m e.spec) some (subst (IsVerdict m e) is h)
