-- What a claim's lines tell.
use Rattle.std.proofs.Common.{◌≡◌, ℕ, true, false, [], ◌∷◌, ◌++◌, Option, Some, None, Ok, Err, IsTrue, refl, sym, ap, subst, ◌∙◌, codes, decimal, arith}
use Rattle.std.proofs.lemmas.Fmt.{decimal_injective}
use Rattle.std.specs.Prelude.{◌↔◌}
use Rattle.cov_syntax.specs.Tokens.{Text}
use Rattle.cov_model.specs.declared.model.Model.{Model}
use Rattle.cov_model.specs.declared.model.Signal.{Signal}
use Rattle.cov_model.specs.States.{State, is_typed}
use Rattle.cov_types.specs.Signals.{IsSignalNamed}
use Rattle.cov_show.specs.Cubes.{shown_vars}
use Rattle.cov_show.specs.States.{state_text}
use Rattle.cov_claims.specs.declared.evidence.Claim.{Claim}
use Rattle.cov_claims.specs.declared.evidence.Claim.TheVariants as claim
use Rattle.cov_evid.specs.declared.fault.EvidFaultKind.TheVariants as kind
use Rattle.cov_evid.specs.Cursors.{Cursor, IsNext, IsSole, IsSoleClaim, IsTaken, fault_in}
use Rattle.cov_evid.specs.Faults.{fault_at}
use Rattle.cov_evid.specs.FirstFault.{behind, for_claim, for_state, for_stem, has_number, past_signal}
use Rattle.cov_evid.specs.Spelling.{IsNumber, IsProperClaim, claim_lines, signal_text}
use Rattle.cov_evid.proofs.Signals.{is_known, is_unknown, named_text}
use Rattle.cov_evid.proofs.Taking.{one_taken, taken_then}
use Rattle.cov_evid.proofs.Walking.{goes_on, is_wrong}

module _ (m : Model) (old mid : Cursor) (line name : Text) (next : IsNext old line mid) (front : Some name ≡ behind (codes "signal ") line) where
  -- behind the line of a signal comes the state
  pub claim_on : (q : Signal) → IsSignalNamed m name q → fault_in m for_claim old ≡ fault_in m for_state mid
  claim_on q h =
      goes_on m for_claim old mid line next for_state (sym (ap (past_signal m line) front) ∙ known)
    where
      known : past_signal m line (Some name) ≡ Ok for_state
      known = rw (is_known m name q h) refl

  -- no signal has the name
  pub no_signal : ((q : Signal) → (◌≡◌ {A = Option Signal} None (Some q)) ↔ IsSignalNamed m name q) → fault_in m for_claim old ≡ Some (fault_at kind.UnknownName old.number)
  no_signal none =
      is_wrong m for_claim old mid line next kind.UnknownName (sym (ap (past_signal m line) front) ∙ unknown)
    where
      unknown : past_signal m line (Some name) ≡ Err kind.UnknownName
      unknown = rw (is_unknown m name (λ q h. let e : ◌≡◌ {A = Option Signal} None (Some q) = (none q).1 h in absurd cc)) refl

-- the lines of a signal and of its state
pub record IsClaimed (m : Model) (old new : Cursor) (q : Signal) (at : State) : Type 0 where
  pub proper : IsProperClaim m (claim.Mutant q at)
  pub taken : IsTaken old (claim_lines m (claim.Mutant q at)) new

pub signal_claimed : (m : Model) (old mid new : Cursor) (line name : Text) (q : Signal) (at : State) → IsNext old line mid → line ≡ codes "signal " ++ name → IsSignalNamed m name q
    → IsTrue (is_typed m at) → IsTaken mid ((codes "at " ++ state_text (shown_vars m) at) ∷ []) new → IsClaimed m old new q at
signal_claimed m old mid new line name q at next front named typed taken =
    let text : signal_text m q ≡ name = named_text m name q named in
    record {
      proper = (subst (λ (t : Text). IsSignalNamed m t q) (sym text) named, typed);
      taken = taken_then old mid new ((codes "signal " ++ signal_text m q) ∷ []) ((codes "at " ++ state_text (shown_vars m) at) ∷ [])
          (one_taken old mid line (codes "signal " ++ signal_text m q) next (front ∙ ap (λ (t : Text). codes "signal " ++ t) (sym text))) taken;
    }

-- the line of an occurrence, or another one
pub occurrence_on : (m : Model) (line : Text) → None ≡ behind (codes "signal ") line → has_number (codes "occurrence ") line ≡ true → past_signal m line (behind (codes "signal ") line) ≡ Ok for_stem
occurrence_on m line none h = sym (ap (past_signal m line) none) ∙ counts
  where
    counts : past_signal m line None ≡ Ok for_stem
    counts = rw h refl

pub no_claim : (m : Model) (line : Text) → None ≡ behind (codes "signal ") line → has_number (codes "occurrence ") line ≡ false → past_signal m line (behind (codes "signal ") line) ≡ Err kind.Line
no_claim m line none h = sym (ap (past_signal m line) none) ∙ counts
  where
    counts : past_signal m line None ≡ Err kind.Line
    counts = rw h refl

-- a signal that is found alone has its name
pub sole_mutant : (m : Model) (name : Text) (q : Signal) (at : State) → IsSignalNamed m name q → ((r : Signal) → IsSignalNamed m name r → ◌≡◌ {A = Option Signal} (Some q) (Some r)) → IsSole m at
    → IsSoleClaim m (claim.Mutant q at)
sole_mutant m name q at named only one = record { only = by }
  where
    by : (d : Claim) → IsProperClaim m d → claim_lines m d ≡ claim_lines m (claim.Mutant q at) → d ≡ claim.Mutant q at
    by (claim.Mutant r t) h e =
        let lines : (codes "signal " ++ signal_text m r) ≡ (codes "signal " ++ signal_text m q) = cc in
        let texts : signal_text m r ≡ signal_text m q = cc in
        let ats : (codes "at " ++ state_text (shown_vars m) t) ≡ (codes "at " ++ state_text (shown_vars m) at) = cc in
        let states : state_text (shown_vars m) t ≡ state_text (shown_vars m) at = cc in
        let state : t ≡ at = one.only t h.1 states in
        let same : ◌≡◌ {A = Option Signal} (Some q) (Some r) = only r (subst (λ (z : Text). IsSignalNamed m z r) (texts ∙ named_text m name q named) h.0) in
        let signals : q ≡ r = cc in
        cc
    by (claim.Occurrence n) h e = absurd (let first : ◌≡◌ {A = ℕ} 111 115 = cc in omega arith)

pub sole_occurrence : (m : Model) (n : ℕ) → IsNumber n → IsSoleClaim m (claim.Occurrence n)
sole_occurrence m n h = record { only = by }
  where
    by : (d : Claim) → IsProperClaim m d → claim_lines m d ≡ claim_lines m (claim.Occurrence n) → d ≡ claim.Occurrence n
    by (claim.Mutant r t) k e = absurd (let first : ◌≡◌ {A = ℕ} 115 111 = cc in omega arith)
    by (claim.Occurrence k) g e =
        let lines : (codes "occurrence " ++ decimal k) ≡ (codes "occurrence " ++ decimal n) = cc in
        let texts : decimal k ≡ decimal n = cc in
        let same : k ≡ n = decimal_injective k n (omega arith) (omega arith) texts in
        ap (λ (i : ℕ). claim.Occurrence i) same
