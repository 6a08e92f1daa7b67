-- What the texts of states tell.
use Rattle.std.proofs.Common.{◌≡◌, Bool, true, false, IsTrue, None, refl}
use Rattle.std.specs.Str.{bytes_eq}
use Rattle.std.proofs.lemmas.Slice.Eq.{bytes_eq-Decides}
use Rattle.cov_model.specs.declared.model.Model.{Model}
use Rattle.cov_model.specs.States.{State, is_typed}
use Rattle.cov_model.specs.WellFormed.{IsWellFormed}
use Rattle.cov_show.specs.Cubes.{shown_vars}
use Rattle.cov_show.specs.States.{state_fault, state_text}
use Rattle.cov_show.proofs.StateLines.{faultless, no_end, no_turn}
use Rattle.cov_evid.specs.declared.ending.Ending.{Ending}
use Rattle.cov_evid.specs.declared.ending.Ending.TheVariants as ending
use Rattle.cov_evid.specs.Spelling.{ending_line}

-- the text of a state has no fault
pub state_told : (m : Model) → IsWellFormed m → (s : State) → IsTrue (is_typed m s) → state_fault (shown_vars m) (state_text (shown_vars m) s) ≡ None
state_told m w s h = (faultless m (state_text (shown_vars m) s) w).1 (s, (h, refl))

-- it does not end the states
pub no_ending : (m : Model) (s : State) (e : Ending) → IsTrue (is_typed m s) → bytes_eq (state_text (shown_vars m) s) (ending_line e) ≡ false
no_ending m s e h = by (bytes_eq (state_text (shown_vars m) s) (ending_line e)) refl
  where
    other : (e : Ending) → state_text (shown_vars m) s ≡ ending_line e → ⊥
    other ending.Turn same = no_turn m s h same
    other ending.End same = no_end m s h same

    by : (b : Bool) → bytes_eq (state_text (shown_vars m) s) (ending_line e) ≡ b → bytes_eq (state_text (shown_vars m) s) (ending_line e) ≡ false
    by true g = absurd (other e ((bytes_eq-Decides (state_text (shown_vars m) s) (ending_line e)).0 g))
    by false g = g
