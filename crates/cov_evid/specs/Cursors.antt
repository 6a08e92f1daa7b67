-- The lines of a text that are left, and what a reader takes of them.
use Rattle.std.specs.Prelude.{◌≡◌, ◌≢◌, ◌≤◌, IsTrue, ℕ, ◌+◌, List, [], ◌∷◌, ◌++◌, length, take, Option, Some, None, Result, Ok, Err}
use Rattle.cov_syntax.specs.Tokens.{Text, line_len}
use Rattle.cov_model.specs.declared.model.Lasso.{Lasso}
use Rattle.cov_model.specs.declared.model.Model.{Model}
use Rattle.cov_model.specs.States.{State, is_typed}
use Rattle.cov_show.specs.Cubes.{shown_vars}
use Rattle.cov_show.specs.States.{state_text}
use Rattle.cov_claims.specs.declared.evidence.Claim.{Claim}
use Rattle.cov_claims.specs.declared.evidence.Evidence.{Evidence}
use Rattle.cov_evid.specs.declared.fault.EvidFault.{EvidFault}
use Rattle.cov_evid.specs.declared.fault.EvidFaultKind.{EvidFaultKind}
use Rattle.cov_evid.specs.declared.fault.EvidRefused.{EvidRefused}
use Rattle.cov_evid.specs.declared.fault.EvidRefused.TheVariants.{Fault, Memory}
use Rattle.cov_evid.specs.Faults.{fault_at}
use Rattle.cov_evid.specs.FirstFault.{Place, cut, cut_counted, fault_from, past, past_counted, pieces}
use Rattle.cov_evid.specs.Spelling.{IsProper, IsProperClaim, are_typed, as_text, claim_lines, most_states, spelled}

-- the text that is left, and the number of its first line
pub record Cursor : Type 0 where
  pub rest : Text
  pub number : ℕ

-- the bytes before the next LF or the end
abbrev pub piece : Text → Text
piece z = take (line_len z) z

-- the next line was taken
pub record IsNext (old : Cursor) (line : Text) (new : Cursor) : Type 0 where
  pub front : line ≡ piece old.rest
  pub text : old.rest ≡ line ++ 10 ∷ new.rest
  pub left : pieces old.rest ≡ line ∷ pieces new.rest
  pub number : new.number ≡ old.number + 1

-- what is left has no LF
pub record IsLast (c : Cursor) : Type 0 where
  pub whole : piece c.rest ≡ c.rest
  pub left : pieces c.rest ≡ c.rest ∷ []

-- these lines were taken
abbrev pub IsTaken : Cursor → List Text → Cursor → Type 0
IsTaken old lines new = old.rest ≡ as_text lines ++ new.rest

-- the first fault of what is left, from a place on
abbrev pub fault_in : Model → Place → Cursor → Option EvidFault
fault_in m place c = fault_from m place c.number (pieces c.rest)

-- a line is at fault, where no place comes behind it
abbrev pub fault_past : Result Place EvidFaultKind → ℕ → Option EvidFault
fault_past (Ok place) n = None
fault_past (Err k) n = Some (fault_at k n)

-- at a place the next piece is read as a state behind so many others, and then comes the other place
pub record IsListed (m : Model) (from : Place) (n : ℕ) (to : Place) (line : Text) : Type 0 where
  pub whole : past m from line ≡ past_counted m n line to
  pub last : cut from line ≡ Some (cut_counted n line)

-- why a reader gives nothing: this is the first fault, or memory ran out
abbrev pub IsRefusal : Option EvidFault → EvidRefused → Type 0
IsRefusal first (Fault f) = first ≡ Some f
IsRefusal first Memory = Unit {0}

-- no other typed state has its text
pub record IsSole (m : Model) (s : State) : Type 0 where
  pub only : (t : State) → IsTrue (is_typed m t) → state_text (shown_vars m) t ≡ state_text (shown_vars m) s → t ≡ s

-- so it is for each of these
abbrev pub AreSole : Model → List State → Type 0
AreSole m [] = Unit {0}
AreSole m (s ∷ ss) = IsSole m s × AreSole m ss

-- no other claim on the model has its lines
pub record IsSoleClaim (m : Model) (c : Claim) : Type 0 where
  pub only : (d : Claim) → IsProperClaim m d → claim_lines m d ≡ claim_lines m c → d ≡ c

-- typed states were put behind others, and there are not too many
pub record AreAdded (m : Model) (before : ℕ) (old new : List State) : Type 0 where
  pub typed : IsTrue (are_typed m new)
  pub sole : AreSole m new
  pub room : before + length new ≤ most_states
  pub more : length old ≤ length new

-- a lasso of typed states, which are not too many
pub record IsShortLasso (m : Model) (l : Lasso) : Type 0 where
  pub stem : IsTrue (are_typed m l.stem)
  pub turn : IsTrue (are_typed m l.turn)
  pub turns : l.turn ≢ []
  pub states : length l.stem + length l.turn ≤ most_states
  pub sole_stem : AreSole m l.stem
  pub sole_turn : AreSole m l.turn

-- no other evidence on the model has its text
pub record IsSoleEvidence (m : Model) (e : Evidence) : Type 0 where
  pub only : (d : Evidence) → IsProper m d → spelled m d ≡ spelled m e → d ≡ e
