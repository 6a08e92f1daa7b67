-- The first fault of a text that is read as evidence, line by line.
use Rattle.std.specs.Prelude.{ℕ, zero, suc, ◌+◌, Bool, false, ◌&&◌, ◌||◌, ◌==◌, nat_lt, if◌then◌else◌, List, [], ◌∷◌, codes, length, slice_get, Option, Some, None, Result, Ok, Err}
use Rattle.std.specs.Option.{option_map_or}
use Rattle.std.specs.Str.{bytes_eq}
use Rattle.cov_syntax.specs.Tokens.{Text}
use Rattle.cov_model.specs.declared.model.Define.{Define}
use Rattle.cov_model.specs.declared.model.Model.{Model}
use Rattle.cov_model.specs.declared.model.Var.{Var}
use Rattle.cov_model.specs.Kinds.{is_boolean, kind_at}
use Rattle.cov_model.specs.Settled.{kinds_of}
use Rattle.cov_show.specs.Cubes.{shown_vars}
use Rattle.cov_show.specs.States.{code_of, state_fault}
use Rattle.cov_show.specs.declared.state_fault.StateFaultKind.TheVariants as state
use Rattle.cov_show.specs.declared.state_fault.StateFault.{StateFault}
use Rattle.cov_evid.specs.declared.ending.Ending.{Ending}
use Rattle.cov_evid.specs.declared.ending.Ending.TheVariants as ending
use Rattle.cov_evid.specs.declared.fault.EvidFault.{EvidFault}
use Rattle.cov_evid.specs.declared.fault.EvidFaultKind.{EvidFaultKind}
use Rattle.cov_evid.specs.declared.fault.EvidFaultKind.TheVariants as kind
use Rattle.cov_evid.specs.Faults.{fault_at}
use Rattle.cov_evid.specs.Numbers.{is_number}
use Rattle.cov_evid.specs.Spelling.{ending_line, longest_text, most_states}

-- ---- parts of a line

-- what stands behind a front in a text that begins with it
abbrev pub behind : Text → Text → Option Text
behind [] z = Some z
behind (a ∷ front) [] = None
behind (a ∷ front) (b ∷ z) = if a == b then behind front z else None

-- a number behind a front
abbrev pub has_number : Text → Text → Bool
has_number front line = option_map_or is_number (behind front line) false

-- whether the name with this number is the text
abbrev pub is_name_text : Model → ℕ → Text → Bool
is_name_text m i name = option_map_or (λ (t : Text). bytes_eq t name) (slice_get m.names i) false

-- whether a place below this one passes
abbrev pub any_below : (ℕ → Bool) → ℕ → Bool
any_below p zero = false
any_below p (suc n) = p n || any_below p n

-- whether the variable or the DEFINE at this place is Boolean and has the flat name
abbrev pub is_variable_named : Model → Text → ℕ → Bool
is_variable_named m name i = option_map_or (λ (x : Var). is_name_text m x.name name) (slice_get m.vars i) false && is_boolean (kind_at (kinds_of m).vars i)

abbrev pub is_define_named : Model → Text → ℕ → Bool
is_define_named m name i = option_map_or (λ (d : Define). is_name_text m d.name name) (slice_get m.defines i) false && is_boolean (kind_at (kinds_of m).defs i)

-- whether a signal of the model has the flat name
unfoldable pub is_signal_name : Model → Text → Bool
is_signal_name m name = any_below (is_variable_named m name) (length m.vars) || any_below (is_define_named m name) (length m.defines)

-- ---- what may stand in a line

-- What stands in the next line. Behind the signal stands a state. In a list so many states stood before, and the turn has at least one.
pub data Place : Type 0 where
  for_header : Place
  for_spec : Place
  for_claim : Place
  for_state : Place
  for_stem : Place
  for_first : ℕ → Place
  for_listed : Ending → ℕ → Place
  for_nothing : Place

-- what comes behind the line that ends the states, of which so many stood before
abbrev pub past_ending : Ending → ℕ → Place
past_ending ending.Turn n = for_first n
past_ending ending.End n = for_nothing

-- what is wrong with a line that should be a state
abbrev pub of_state_fault : StateFault → EvidFaultKind
of_state_fault f = if f.code == code_of state.Value then kind.BadValue else kind.Line

-- a state, and then this place; or why the text is none
unfoldable pub past_state : Model → Text → Place → Result Place EvidFaultKind
past_state m t place = elim (state_fault (shown_vars m) t) [
  | None ↦ Ok place
  | Some f ↦ Err (of_state_fault f)
]

-- a state behind so many others, and then this place
abbrev pub past_counted : Model → ℕ → Text → Place → Result Place EvidFaultKind
past_counted m n line place = if nat_lt n most_states then past_state m line place else Err kind.TooLong

-- a state, or the line that ends the list
abbrev pub past_listed : Model → Ending → ℕ → Text → Result Place EvidFaultKind
past_listed m e n line = if bytes_eq line (ending_line e) then Ok (past_ending e n) else past_counted m n line (for_listed e (n + 1))

-- the line of a claim: what stands behind `signal `, or another line
abbrev pub past_signal : Model → Text → Option Text → Result Place EvidFaultKind
past_signal m line (Some name) = if is_signal_name m name then Ok for_state else Err kind.UnknownName
past_signal m line None = if has_number (codes "occurrence ") line then Ok for_stem else Err kind.Line

-- the line of the state of a claim: what stands behind `at `
abbrev pub past_at : Model → Option Text → Result Place EvidFaultKind
past_at m (Some t) = past_state m t for_stem
past_at m None = Err kind.Line

-- what comes behind a whole line, or why it may not stand there
abbrev pub past : Model → Place → Text → Result Place EvidFaultKind
past m for_header line = if bytes_eq line (codes "covsmv evidence 1") then Ok for_spec else Err kind.Header
past m for_spec line = if has_number (codes "spec ") line then Ok for_claim else Err kind.Line
past m for_claim line = past_signal m line (behind (codes "signal ") line)
past m for_state line = past_at m (behind (codes "at ") line)
past m for_stem line = if bytes_eq line (codes "stem") then Ok (for_listed ending.Turn 0) else Err kind.Line
past m (for_first n) line = past_counted m n line (for_listed ending.End (n + 1))
past m (for_listed e n) line = past_listed m e n line
past m for_nothing line = Err kind.Trailing

-- A last piece without LF is cut, but where it would be one state too many.
abbrev pub cut_counted : ℕ → Text → EvidFaultKind
cut_counted n [] = kind.Cut
cut_counted n (b ∷ bs) = if nat_lt n most_states then kind.Cut else kind.TooLong

abbrev pub cut_listed : Ending → ℕ → Text → EvidFaultKind
cut_listed e n last = if bytes_eq last (ending_line e) then kind.Cut else cut_counted n last

-- what a last piece without LF is at a place; behind the last line nothing may stand
abbrev pub cut : Place → Text → Option EvidFaultKind
cut (for_first n) last = Some (cut_counted n last)
cut (for_listed e n) last = Some (cut_listed e n last)
cut for_nothing [] = None
cut for_nothing (b ∷ bs) = Some kind.Trailing
cut _ last = Some kind.Cut

-- ---- the text

-- a text cut at its LFs: the whole lines, and what is behind the last of them
abbrev pub onto_first : ℕ → List Text → List Text
onto_first b [] = (b ∷ []) ∷ []
onto_first b (p ∷ ps) = (b ∷ p) ∷ ps

abbrev pub pieces : Text → List Text
pieces [] = [] ∷ []
pieces (b ∷ bs) = if b == 10 then [] ∷ pieces bs else onto_first b (pieces bs)

-- the first fault from a place on, where the first of these pieces is the line of this number
unfoldable pub fault_from : Model → Place → ℕ → List Text → Option EvidFault
fault_from m place n [] = None
fault_from m place n (last ∷ []) = elim (cut place last) [ Some k ↦ Some (fault_at k n) | None ↦ None ]
fault_from m place n (line ∷ next ∷ rest) = elim (past m place line) [
  | Ok next_place ↦ fault_from m next_place (n + 1) (next ∷ rest)
  | Err k ↦ Some (fault_at k n)
]

-- the first fault of a text, if it has one
unfoldable pub evid_fault : Model → Text → Option EvidFault
evid_fault m text = if nat_lt longest_text (length text) then Some (fault_at kind.TooLong 1) else fault_from m for_header 1 (pieces text)
