-- Lines that are put one after the other.
use Rattle.std.proofs.Common.{◌≡◌, ℕ, List, [], ◌∷◌, ◌++◌, flat_map, refl, sym, ap, ◌∙◌, append_assoc, codes, decimal}
use Rattle.std.proofs.lemmas.List.{append-nil}
use Rattle.cov_syntax.specs.Tokens.{Text}
use Rattle.cov_model.specs.declared.model.Lasso.{Lasso}
use Rattle.cov_model.specs.declared.model.Model.{Model}
use Rattle.cov_model.specs.declared.model.Signal.{Signal}
use Rattle.cov_model.specs.States.{State}
use Rattle.cov_show.specs.Cubes.{shown_vars}
use Rattle.cov_show.specs.States.{state_text}
use Rattle.cov_evid.specs.declared.ending.Ending.TheVariants as ending
use Rattle.cov_claims.specs.declared.evidence.Claim.TheVariants as claim
use Rattle.cov_claims.specs.declared.evidence.Evidence.{Evidence}
use Rattle.cov_evid.specs.Spelling.{as_text, claim_lines, ending_line, lasso_lines, signal_text, spelled, state_lines}
use Rattle.cov_evid.proofs.Taking.{as_text-append}

-- the lines of states, as they are put
abbrev pub put_states : Model → List State → Text
put_states m ss = flat_map (λ (s : State). state_text (shown_vars m) s ++ codes "\n") ss

states_text : (m : Model) (ss : List State) → put_states m ss ≡ as_text (state_lines m ss)
states_text m [] = refl
states_text m (s ∷ ss) = ap (λ (z : Text). (state_text (shown_vars m) s ++ codes "\n") ++ z) (states_text m ss)

pub lasso_text : (m : Model) (l : Lasso) (old a b c d f : Text) → a ≡ old ++ (codes "stem" ++ [] ++ codes "\n") → b ≡ a ++ put_states m l.stem → c ≡ b ++ (ending_line ending.Turn ++ [] ++ codes "\n")
    → d ≡ c ++ put_states m l.turn → f ≡ d ++ (ending_line ending.End ++ [] ++ codes "\n") → f ≡ old ++ as_text (lasso_lines m l)
lasso_text m l old a b c d f ha hb hc hd hf =
    let sl : List Text = state_lines m l.stem in
    let tl : List Text = state_lines m l.turn in
    let stem : b ≡ (old ++ codes "stem\n") ++ as_text sl = hb ∙ ap (λ (z : Text). z ++ put_states m l.stem) ha ∙ ap (λ (z : Text). (old ++ codes "stem\n") ++ z) (states_text m l.stem) in
    let turn : d ≡ (b ++ codes "turn\n") ++ as_text tl = hd ∙ ap (λ (z : Text). z ++ put_states m l.turn) hc ∙ ap (λ (z : Text). (b ++ codes "turn\n") ++ z) (states_text m l.turn) in
    hf ∙ ap (λ (z : Text). z ++ codes "end\n") (turn ∙ ap (λ (z : Text). (z ++ codes "turn\n") ++ as_text tl) stem) ∙ joined (as_text sl) (as_text tl) ∙ ap (λ (z : Text). old ++ (codes "stem\n" ++ z)) (sym whole)
  where
    joined : (s t : Text) → ((((old ++ codes "stem\n") ++ s) ++ codes "turn\n") ++ t) ++ codes "end\n" ≡ old ++ (codes "stem\n" ++ (s ++ (codes "turn\n" ++ (t ++ codes "end\n"))))
    joined s t = simp append_assoc

    whole : as_text (state_lines m l.stem ++ ending_line ending.Turn ∷ (state_lines m l.turn ++ ending_line ending.End ∷ []))
        ≡ as_text (state_lines m l.stem) ++ (codes "turn\n" ++ (as_text (state_lines m l.turn) ++ codes "end\n"))
    whole =
        as_text-append (state_lines m l.stem) (ending_line ending.Turn ∷ (state_lines m l.turn ++ ending_line ending.End ∷ []))
        ∙ ap (λ (z : Text). as_text (state_lines m l.stem) ++ (codes "turn\n" ++ z)) (as_text-append (state_lines m l.turn) (ending_line ending.End ∷ []))

pub mutant_text : (m : Model) (q : Signal) (at : State) (old a b name : Text) → name ≡ signal_text m q → a ≡ old ++ (codes "signal " ++ name ++ codes "\n") → b ≡ a ++ (codes "at " ++ state_text (shown_vars m) at ++ codes "\n")
    → b ≡ old ++ as_text (claim_lines m (claim.Mutant q at))
mutant_text m q at old a b name n ha hb =
    hb ∙ ap (λ (z : Text). z ++ (codes "at " ++ state_text (shown_vars m) at ++ codes "\n")) (ha ∙ ap (λ (t : Text). old ++ (codes "signal " ++ t ++ codes "\n")) n)
    ∙ joined (codes "signal ") (signal_text m q) (codes "at ") (state_text (shown_vars m) at) (codes "\n")
  where
    joined : (p s r t n : Text) → (old ++ (p ++ s ++ n)) ++ (r ++ t ++ n) ≡ old ++ (((p ++ s) ++ n) ++ (((r ++ t) ++ n) ++ []))
    joined p s r t n = simp (append_assoc, append-nil)

-- a line of a number
pub number_text : (front : Text) (k : ℕ) (old new : Text) → new ≡ old ++ (front ++ decimal k ++ codes "\n") → new ≡ old ++ as_text ((front ++ decimal k) ∷ [])
number_text front k old new h = h ∙ ap (λ (z : Text). old ++ z) (sym (append-nil (front ++ decimal k ++ codes "\n")))

pub evidence_text : (m : Model) (e : Evidence) (a b c d none : Text) → none ≡ [] → a ≡ none ++ (codes "covsmv evidence 1" ++ [] ++ codes "\n") → b ≡ a ++ (codes "spec " ++ decimal e.spec ++ codes "\n")
    → c ≡ b ++ as_text (claim_lines m e.claim) → d ≡ c ++ as_text (lasso_lines m e.lasso) → d ≡ spelled m e
evidence_text m e a b c d none h0 ha hb hc hd =
    let first : a ≡ codes "covsmv evidence 1\n" = ha ∙ ap (λ (z : Text). z ++ codes "covsmv evidence 1\n") h0 in
    hd ∙ ap (λ (z : Text). z ++ as_text (lasso_lines m e.lasso)) (hc ∙ ap (λ (z : Text). z ++ as_text (claim_lines m e.claim)) (hb ∙ ap (λ (z : Text). z ++ (codes "spec " ++ decimal e.spec ++ codes "\n")) first))
    ∙ joined (as_text (claim_lines m e.claim)) (as_text (lasso_lines m e.lasso))
    ∙ ap (λ (z : Text). (codes "covsmv evidence 1" ++ codes "\n") ++ (((codes "spec " ++ decimal e.spec) ++ codes "\n") ++ z)) (sym (as_text-append (claim_lines m e.claim) (lasso_lines m e.lasso)))
  where
    joined : (s t : Text) → ((codes "covsmv evidence 1\n" ++ (codes "spec " ++ decimal e.spec ++ codes "\n")) ++ s) ++ t
        ≡ (codes "covsmv evidence 1" ++ codes "\n") ++ (((codes "spec " ++ decimal e.spec) ++ codes "\n") ++ (s ++ t))
    joined s t = simp append_assoc
