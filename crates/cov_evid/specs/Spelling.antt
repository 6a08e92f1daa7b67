-- Evidence that speaks of a model, and its one text.
use Rattle.std.specs.Prelude.{◌≢◌, ℕ, ◌+◌, ◌≤◌, Bool, List, [], ◌∷◌, ◌++◌, IsTrue, codes, decimal, flat_map, length, map, slice_get, slice_index_or}
use Rattle.std.specs.List.{list_all}
use Rattle.std.specs.Option.{option_map_or}
use Rattle.cov_syntax.specs.Tokens.{Text}
use Rattle.cov_model.specs.declared.model.Define.{Define}
use Rattle.cov_model.specs.declared.model.Lasso.{Lasso}
use Rattle.cov_model.specs.declared.model.Model.{Model}
use Rattle.cov_model.specs.declared.model.Signal.{Signal}
use Rattle.cov_model.specs.declared.model.Signal.TheVariants as signal
use Rattle.cov_model.specs.declared.model.Var.{Var}
use Rattle.cov_model.specs.States.{State, is_typed}
use Rattle.cov_types.specs.Signals.{IsSignalNamed}
use Rattle.cov_show.specs.Cubes.{shown_vars}
use Rattle.cov_show.specs.States.{state_text}
use Rattle.cov_evid.specs.declared.ending.Ending.{Ending}
use Rattle.cov_evid.specs.declared.ending.Ending.TheVariants as ending
use Rattle.cov_claims.specs.declared.evidence.Claim.{Claim}
use Rattle.cov_claims.specs.declared.evidence.Claim.TheVariants as claim
use Rattle.cov_claims.specs.declared.evidence.Evidence.{Evidence}

-- ---- evidence that speaks of a model

-- the flat name of a signal, and nothing where there is no such variable or DEFINE
abbrev pub signal_text : Model → Signal → Text
signal_text m (signal.Var i) = option_map_or (λ (x : Var). slice_index_or m.names x.name []) (slice_get m.vars i) []
signal_text m (signal.Def i) = option_map_or (λ (d : Define). slice_index_or m.names d.name []) (slice_get m.defines i) []

-- the numbers that specifications and occurrences are given
abbrev pub IsNumber : ℕ → Type 0
IsNumber n = (1 ≤ n) × (n ≤ 999999999)

-- the signal is one of the model, and the state is typed; or the occurrence has a number
abbrev pub IsProperClaim : Model → Claim → Type 0
IsProperClaim m (claim.Mutant q at) = IsSignalNamed m (signal_text m q) q × IsTrue (is_typed m at)
IsProperClaim m (claim.Occurrence n) = IsNumber n

-- each is a typed state
abbrev pub are_typed : Model → List State → Bool
are_typed m ss = list_all (is_typed m) ss

-- evidence whose signal and states are those of the model
pub record IsProper (m : Model) (e : Evidence) : Type 0 where
  pub claim : IsProperClaim m e.claim
  pub spec : IsNumber e.spec
  pub stem : IsTrue (are_typed m e.lasso.stem)
  pub turn : IsTrue (are_typed m e.lasso.turn)
  pub turns : e.lasso.turn ≢ []

-- ---- its text

-- lines, each with its end
abbrev pub as_text : List Text → Text
as_text ls = flat_map (λ (l : Text). l ++ codes "\n") ls

-- the lines of states
abbrev pub state_lines : Model → List State → List Text
state_lines m ss = map (state_text (shown_vars m)) ss

-- the lines of a claim
abbrev pub claim_lines : Model → Claim → List Text
claim_lines m (claim.Mutant q at) = (codes "signal " ++ signal_text m q) ∷ (codes "at " ++ state_text (shown_vars m) at) ∷ []
claim_lines m (claim.Occurrence n) = (codes "occurrence " ++ decimal n) ∷ []

-- the line that ends a list of states
abbrev pub ending_line : Ending → Text
ending_line ending.Turn = codes "turn"
ending_line ending.End = codes "end"

-- the lines of a lasso
abbrev pub lasso_lines : Model → Lasso → List Text
lasso_lines m l = codes "stem" ∷ (state_lines m l.stem ++ ending_line ending.Turn ∷ (state_lines m l.turn ++ ending_line ending.End ∷ []))

-- the lines of evidence
abbrev pub evidence_lines : Model → Evidence → List Text
evidence_lines m e = codes "covsmv evidence 1" ∷ (codes "spec " ++ decimal e.spec) ∷ (claim_lines m e.claim ++ lasso_lines m e.lasso)

-- the text of evidence
abbrev pub spelled : Model → Evidence → Text
spelled m e = as_text (evidence_lines m e)

-- ---- its size

-- the most bytes of a text of evidence
abbrev pub longest_text : ℕ
longest_text = 67108864

-- the most states of stem and turn together
abbrev pub most_states : ℕ
most_states = 100000

-- its text can be read
pub record IsWithinLimits (m : Model) (e : Evidence) : Type 0 where
  pub bytes : length (spelled m e) ≤ longest_text
  pub states : length e.lasso.stem + length e.lasso.turn ≤ most_states
