-- The whole text of evidence.
use Rattle.std.proofs.Common.{◌≡◌, ◌<◌, ◌≤◌, [], ◌∷◌, ◌++◌, length, Some, refl, sym, ap, subst, ◌∙◌, codes, decimal}
use Rattle.std.proofs.lemmas.List.{append-nil}
use Rattle.cov_syntax.specs.Tokens.{Text}
use Rattle.cov_model.specs.declared.model.Model.{Model}
use Rattle.cov_claims.specs.declared.evidence.Evidence.{Evidence}
use Rattle.cov_evid.specs.declared.fault.EvidFaultKind.TheVariants as kind
use Rattle.cov_evid.specs.Cursors.{Cursor, IsShortLasso, IsTaken, fault_in}
use Rattle.cov_evid.specs.Faults.{fault_at}
use Rattle.cov_evid.specs.FirstFault.{evid_fault, for_header}
use Rattle.cov_evid.specs.Spelling.{IsNumber, IsProper, IsProperClaim, IsWithinLimits, claim_lines, lasso_lines, longest_text, spelled}
use Rattle.cov_evid.proofs.Taking.{ltb_is, ltb_not, taken_then}

-- a text that is too long
pub too_long : (m : Model) (text : Text) → longest_text < length text → evid_fault m text ≡ Some (fault_at kind.TooLong 1)
unfolding evid_fault
too_long m text h = rw (ltb_is longest_text (length text) h, evid_fault) refl

-- the faults of the others are those of their lines
pub begun : (m : Model) (text : Text) (c : Cursor) → length text ≤ longest_text → c ≡ record { rest = text; number = 1 } → evid_fault m text ≡ fault_in m for_header c
unfolding evid_fault
begun m text c h e = rw (e, ltb_not longest_text (length text) h, evid_fault) refl

module _ (m : Model) (text : Text) (c0 c1 c2 c3 c4 : Cursor) (e : Evidence) where
  pub whole_text : c0 ≡ record { rest = text; number = 1 } → IsTaken c0 (codes "covsmv evidence 1" ∷ []) c1 → IsTaken c1 ((codes "spec " ++ decimal e.spec) ∷ []) c2 → IsTaken c2 (claim_lines m e.claim) c3
      → IsTaken c3 (lasso_lines m e.lasso) c4 → c4.rest ≡ [] → text ≡ spelled m e
  whole_text b h s k l last =
      ap (λ (c : Cursor). c.rest) (sym b)
      ∙ taken_then c0 c1 c4 (codes "covsmv evidence 1" ∷ []) ((codes "spec " ++ decimal e.spec) ∷ (claim_lines m e.claim ++ lasso_lines m e.lasso)) h
      (taken_then c1 c2 c4 ((codes "spec " ++ decimal e.spec) ∷ []) (claim_lines m e.claim ++ lasso_lines m e.lasso) s (taken_then c2 c3 c4 (claim_lines m e.claim) (lasso_lines m e.lasso) k l))
      ∙ ap (λ (z : Text). spelled m e ++ z) last ∙ append-nil (spelled m e)

-- what was read is evidence that speaks of the model
pub record IsRead (m : Model) (text : Text) (e : Evidence) : Type 0 where
  pub proper : IsProper m e
  pub limits : IsWithinLimits m e

pub is_read : (m : Model) (text : Text) (e : Evidence) → IsNumber e.spec → IsProperClaim m e.claim → IsShortLasso m e.lasso → length text ≤ longest_text → text ≡ spelled m e → IsRead m text e
is_read m text e n k l short is = record {
  proper = record { claim = k; spec = n; stem = l.stem; turn = l.turn; turns = l.turns };
  limits = record { bytes = subst (λ (z : Text). length z ≤ longest_text) is short; states = l.states };
}
