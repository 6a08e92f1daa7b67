-- The text of evidence has no fault.
use Rattle.std.proofs.Common.{◌≡◌, ◌≢◌, ℕ, ◌+◌, ◌<◌, ◌≤◌, IsTrue, List, [], ◌∷◌, ◌++◌, length, Some, None, Result, Ok, Err, IfOk, IfErr, refl, sym, ap, ◌∙◌, codes, decimal, append_assoc, arith, inl, inr}
use Rattle.std.specs.Prelude.{◌⊎◌}
use Rattle.std.proofs.lemmas.Bool.{and_parts}
use Rattle.std.proofs.lemmas.Slice.Eq.{bytes_eq-Decides}
use Rattle.cov_syntax.specs.Tokens.{Text}
use Rattle.cov_model.specs.declared.model.Lasso.{Lasso}
use Rattle.cov_model.specs.declared.model.Model.{Model}
use Rattle.cov_model.specs.States.{State, is_typed}
use Rattle.cov_model.specs.WellFormed.{IsWellFormed}
use Rattle.cov_show.specs.Cubes.{shown_vars}
use Rattle.cov_show.specs.States.{state_text}
use Rattle.cov_evid.specs.declared.ending.Ending.{Ending}
use Rattle.cov_evid.specs.declared.ending.Ending.TheVariants as ending
use Rattle.cov_claims.specs.declared.evidence.Claim.{Claim}
use Rattle.cov_claims.specs.declared.evidence.Claim.TheVariants as claim
use Rattle.cov_claims.specs.declared.evidence.Evidence.{Evidence}
use Rattle.cov_evid.specs.declared.fault.EvidRefused.{EvidRefused}
use Rattle.cov_evid.specs.declared.fault.EvidRefused.TheVariants.{Fault, Memory}
use Rattle.cov_evid.specs.Cursors.{IsRefusal, IsSoleEvidence}
use Rattle.cov_evid.specs.FirstFault.{Place, evid_fault, fault_from, for_claim, for_first, for_header, for_listed, for_spec, for_state, for_stem, past, past_counted, past_ending, past_signal, past_listed}
use Rattle.cov_evid.specs.Spelling.{IsProper, IsProperClaim, IsWithinLimits, are_typed, claim_lines, ending_line, evidence_lines, lasso_lines, most_states, signal_text, spelled, state_lines}
use Rattle.cov_evid.proofs.Numbers.{is_decimal}
use Rattle.cov_evid.proofs.Signals.{is_known}
use Rattle.cov_evid.proofs.StateLaws.{no_ending, state_told}
use Rattle.cov_evid.proofs.Taking.{counted, state_on}
use Rattle.cov_evid.proofs.Texts.{has_lines, pieces_lines}
use Rattle.cov_evid.proofs.Walking.{step_on}
use Rattle.cov_evid.proofs.Whole.{begun}

-- a piece stands behind each line
more : (ls : List Text) (l : Text) → ls ++ l ∷ [] ≢ []
more [] l = λ e. cc
more (k ∷ ls) l = λ e. cc

module _ (m : Model) (w : IsWellFormed m) where
  -- a state that may be listed
  past_one : (s : State) (n : ℕ) (to : Place) → IsTrue (is_typed m s) → n < most_states → past_counted m n (state_text (shown_vars m) s) to ≡ Ok to
  past_one s n to h k = counted m n (state_text (shown_vars m) s) to k ∙ state_on m (state_text (shown_vars m) s) to (state_told m w s h)

  -- what is behind the states and the line that ends them has their fault, whatever its line is
  record Walks (e : Ending) (n k : ℕ) (ss : List State) (ps : List Text) : Type 0 where
    line : ℕ
    on : fault_from m (for_listed e n) k (state_lines m ss ++ ending_line e ∷ ps) ≡ fault_from m (past_ending e (n + length ss)) line ps

  walk : (e : Ending) (ss : List State) (n k : ℕ) (ps : List Text) → ps ≢ [] → IsTrue (are_typed m ss) → n + length ss ≤ most_states → Walks e n k ss ps
  walk e [] n k ps f h r =
      let same = (bytes_eq-Decides (ending_line e) (ending_line e)).1 refl in
      let count : n ≡ n + 0 = omega arith in
      record {
        line = k + 1;
        on = step_on m (for_listed e n) k (ending_line e) (past_ending e n) ps f (rw same refl) ∙ ap (λ (i : ℕ). fault_from m (past_ending e i) (k + 1) ps) count;
      }
  walk e (s ∷ ss) n k ps f h r =
      let p = and_parts (is_typed m s) (are_typed m ss) h in
      let rest = walk e ss (n + 1) (k + 1) ps f p.1 (omega arith) in
      let count : n + 1 + length ss ≡ n + length (s ∷ ss) = omega arith in
      let one : past_listed m e n (state_text (shown_vars m) s) ≡ Ok (for_listed e (n + 1)) = rw (no_ending m s e p.0) (past_one s n (for_listed e (n + 1)) p.0 (omega arith)) in
      record {
        line = rest.line;
        on =
            step_on m (for_listed e n) k (state_text (shown_vars m) s) (for_listed e (n + 1)) (state_lines m ss ++ ending_line e ∷ ps) (some (state_lines m ss)) one
            ∙ rest.on ∙ ap (λ (i : ℕ). fault_from m (past_ending e i) rest.line ps) count;
      }
    where
      some : (ls : List Text) → ls ++ ending_line e ∷ ps ≢ []
      some [] = λ e. cc
      some (l ∷ ls) = λ e. cc

  -- the turn, and nothing behind it
  turn_on : (ts : List State) (n k : ℕ) → ts ≢ [] → IsTrue (are_typed m ts) → n + length ts ≤ most_states → fault_from m (for_first n) k (state_lines m ts ++ ending_line ending.End ∷ [] ∷ []) ≡ None
  unfolding fault_from
  turn_on [] n k f h r = absurd (f refl)
  turn_on (t ∷ ts) n k f h r =
      let p = and_parts (is_typed m t) (are_typed m ts) h in
      let rest = walk ending.End ts (n + 1) (k + 1) ([] ∷ []) (λ e. cc) p.1 (omega arith) in
      step_on m (for_first n) k (state_text (shown_vars m) t) (for_listed ending.End (n + 1)) (state_lines m ts ++ ending_line ending.End ∷ [] ∷ []) (some (state_lines m ts))
      (past_one t n (for_listed ending.End (n + 1)) p.0 (omega arith))
      ∙ rest.on
    where
      some : (ls : List Text) → ls ++ ending_line ending.End ∷ [] ∷ [] ≢ []
      some [] = λ e. cc
      some (l ∷ ls) = λ e. cc

  lasso_on : (l : Lasso) (k : ℕ) → IsTrue (are_typed m l.stem) → IsTrue (are_typed m l.turn) → l.turn ≢ [] → length l.stem + length l.turn ≤ most_states
      → fault_from m for_stem k (lasso_lines m l ++ [] ∷ []) ≡ None
  lasso_on l k h t f r =
      let turns : List Text = state_lines m l.turn ++ ending_line ending.End ∷ [] ∷ [] in
      let ends : (state_lines m l.turn ++ ending_line ending.End ∷ []) ++ [] ∷ [] ≡ turns = append_assoc (state_lines m l.turn) (ending_line ending.End ∷ []) ([] ∷ []) in
      let lines : (state_lines m l.stem ++ ending_line ending.Turn ∷ (state_lines m l.turn ++ ending_line ending.End ∷ [])) ++ [] ∷ [] ≡ state_lines m l.stem ++ ending_line ending.Turn ∷ turns =
      append_assoc (state_lines m l.stem) (ending_line ending.Turn ∷ (state_lines m l.turn ++ ending_line ending.End ∷ [])) ([] ∷ [])
      ∙ ap (λ (ls : List Text). state_lines m l.stem ++ ending_line ending.Turn ∷ ls) ends in
      let stem = walk ending.Turn l.stem 0 (k + 1) turns (some (state_lines m l.turn)) h (omega arith) in
      let begins : past m for_stem (codes "stem") ≡ Ok (for_listed ending.Turn 0) = refl in
      step_on m for_stem k (codes "stem") (for_listed ending.Turn 0) ((state_lines m l.stem ++ ending_line ending.Turn ∷ (state_lines m l.turn ++ ending_line ending.End ∷ [])) ++ [] ∷ [])
      (more (state_lines m l.stem ++ ending_line ending.Turn ∷ (state_lines m l.turn ++ ending_line ending.End ∷ [])) []) begins
      ∙ ap (fault_from m (for_listed ending.Turn 0) (k + 1)) lines
      ∙ stem.on
      ∙ turn_on l.turn (0 + length l.stem) stem.line f t (omega arith)
    where
      some : (ls : List Text) → ls ++ ending_line ending.End ∷ [] ∷ [] ≢ []
      some [] = λ e. cc
      some (l ∷ ls) = λ e. cc

  record Claims (c : Claim) (k : ℕ) (ls : List Text) : Type 0 where
    line : ℕ
    on : fault_from m for_claim k (claim_lines m c ++ ls) ≡ fault_from m for_stem line ls

  claim_goes : (c : Claim) (k : ℕ) (ls : List Text) → ls ≢ [] → IsProperClaim m c → Claims c k ls
  claim_goes (claim.Mutant q at) k ls f h =
      let first : Text = codes "signal " ++ signal_text m q in
      let second : Text = codes "at " ++ state_text (shown_vars m) at in
      let known : past_signal m first (Some (signal_text m q)) ≡ Ok for_state = rw (is_known m (signal_text m q) q h.0) refl in
      record {
        line = k + 1 + 1;
        on =
            step_on m for_claim k first for_state (second ∷ ls) (λ e. cc) known
            ∙ step_on m for_state (k + 1) second for_stem ls f (state_on m (state_text (shown_vars m) at) for_stem (state_told m w at h.1));
      }
  claim_goes (claim.Occurrence n) k ls f h =
      let first : Text = codes "occurrence " ++ decimal n in
      let known : past_signal m first None ≡ Ok for_stem = rw (is_decimal n h) refl in
      record { line = k + 1; on = step_on m for_claim k first for_stem ls f known }

  pub no_fault : (e : Evidence) → IsProper m e → IsWithinLimits m e → evid_fault m (spelled m e) ≡ None
  no_fault e p l =
      let lines : List Text = claim_lines m e.claim ++ lasso_lines m e.lasso in
      let claims = claim_goes e.claim (1 + 1 + 1) (lasso_lines m e.lasso ++ [] ∷ []) (more (lasso_lines m e.lasso) []) p.claim in
      let begins : past m for_header (codes "covsmv evidence 1") ≡ Ok for_spec = refl in
      let spec : past m for_spec (codes "spec " ++ decimal e.spec) ≡ Ok for_claim = rw (is_decimal e.spec p.spec) refl in
      begun m (spelled m e) (record { rest = spelled m e; number = 1 }) l.bytes refl
      ∙ ap (fault_from m for_header 1) (pieces_lines (evidence_lines m e) (has_lines m e w p))
      ∙ step_on m for_header 1 (codes "covsmv evidence 1") for_spec ((codes "spec " ++ decimal e.spec) ∷ (lines ++ [] ∷ [])) (λ e. cc) begins
      ∙ step_on m for_spec (1 + 1) (codes "spec " ++ decimal e.spec) for_claim (lines ++ [] ∷ []) (more lines []) spec
      ∙ ap (fault_from m for_claim (1 + 1 + 1)) (append_assoc (claim_lines m e.claim) (lasso_lines m e.lasso) ([] ∷ []))
      ∙ claims.on
      ∙ lasso_on e.lasso claims.line p.stem p.turn p.turns l.states

-- no other answer comes at the text of evidence
pub only_this : (m : Model) (text : Text) (r : Result Evidence EvidRefused) → IsWellFormed m → IfOk r (λ e. IsProper m e × IsWithinLimits m e × (text ≡ spelled m e)) → IfOk r (IsSoleEvidence m)
    → IfErr r (IsRefusal (evid_fault m text)) → (e : Evidence) → IsProper m e → IsWithinLimits m e → text ≡ spelled m e → (r ≡ Ok e) ⊎ (r ≡ Err Memory)
only_this m text (Ok d) w ok sole fault e p l same =
    let one : e ≡ d = sole.only e p (sym same ∙ ok.2) in
    inl (ap (λ (x : Evidence). Ok x) (sym one))
only_this m text (Err Memory) w ok sole fault e p l same = inr refl
only_this m text (Err (Fault f)) w ok sole fault e p l same =
    let none : evid_fault m text ≡ None = ap (evid_fault m) same ∙ no_fault m w e p l in
    absurd cc
