-- Printed states, and what a text tells that should be one. A state has a value of each variable, given by their places.
use Rattle.std.specs.Prelude.{◌≡◌, ℕ, ◌+◌, Bool, true, not, ◌&&◌, ◌==◌, if◌then◌else◌, IsTrue, List, [], ◌∷◌, ◌++◌, length, map, take_while, drop, zip, slice_index_or, codes, Option, Some, None, Result, Ok, Err}
use Rattle.std.specs.List.{position}
use Rattle.std.specs.Str.{bytes_eq}
use Rattle.cov_syntax.specs.declared.tree.Value.{Value}
use Rattle.cov_syntax.specs.declared.tree.Value.TheVariants as value
use Rattle.cov_syntax.specs.Tokens.{Text}
use Rattle.cov_model.specs.declared.model.Model.{Model}
use Rattle.cov_model.specs.declared.model.Var.{Var}
use Rattle.cov_model.specs.States.{State, is_typed}
use Rattle.cov_model.specs.Values.{is_small, item}
use Rattle.cov_show.specs.declared.state_fault.StateFaultKind.{StateFaultKind}
use Rattle.cov_show.specs.declared.state_fault.StateFaultKind.TheVariants as kind
use Rattle.cov_show.specs.declared.state_fault.StateFault.{StateFault}
use Rattle.cov_show.specs.declared.state_fault.StateRefused.{StateRefused}
use Rattle.cov_show.specs.declared.state_fault.StateRefused.TheVariants as refused
use Rattle.cov_show.specs.declared.state_reading.Part.{Part}
use Rattle.cov_show.specs.Cubes.{Shown, shown_vars, or_all}

-- ---- texts

-- the part of a variable: its name, `=` and the value at a place
abbrev pub state_part : Shown → ℕ → Text
state_part x i = x.name ++ codes "=" ++ slice_index_or x.values i []

-- the parts of the variables
abbrev pub state_parts : List Shown → List ℕ → List Text
state_parts xs s = map (λ (p : Shown × ℕ). state_part p.0 p.1) (zip xs s)

-- the text of a state: all of these with `,` between each two, or `all` where there is no variable
abbrev pub state_text : List Shown → List ℕ → Text
state_text xs s = or_all (state_parts xs s)

-- ---- faults

-- the number of a fault
abbrev pub code_of : StateFaultKind → ℕ
code_of kind.Expected = 1
code_of kind.Value = 2
code_of kind.Trailing = 3

-- a fault at a byte, from 0
abbrev pub fault_at : StateFaultKind → ℕ → StateFault
fault_at k at = record { code = code_of k; place = at }

-- ---- what a text tells

-- what stands behind these bytes in a text that begins with them
abbrev pub behind : Text → Text → Option Text
behind [] z = Some z
behind (b ∷ head) [] = None
behind (b ∷ head) (c ∷ z) = if b == c then behind head z else None

-- what stands before the value of a variable; the mark is `,` but for the first one
abbrev pub head : Text → Text → Text
head mark name = mark ++ name ++ codes "="

-- the bytes up to the next `,` or the end
abbrev pub word : Text → Text
word z = take_while (λ b. not (b == 44)) z

-- the place of the first value with this text
abbrev pub place_of : List Text → Text → Option ℕ
place_of values w = position (bytes_eq w) values

-- a value with this place whose part has so many bytes; it begins at a byte
abbrev pub told_value : ℕ → ℕ → Option ℕ → Result Part StateFault
told_value at len (Some i) = Ok (record { place = i; len = len })
told_value at len None = Err (fault_at kind.Value at)

-- The value behind a head of so many bytes, at the front of what stands behind it.
abbrev pub told_behind : List Text → ℕ → ℕ → Option Text → Result Part StateFault
told_behind values at len (Some z) = told_value (at + len) (len + length (word z)) (place_of values (word z))
told_behind values at len None = Err (fault_at kind.Expected at)

-- the part of a variable at the front of a text that begins at a byte
unfoldable pub told_part : Shown → Text → ℕ → Text → Result Part StateFault
told_part x mark at z = told_behind x.values at (length (head mark x.name)) (behind (head mark x.name) z)

-- one place before the others
abbrev pub with_place : ℕ → Result (List ℕ) StateFault → Result (List ℕ) StateFault
with_place i (Ok s) = Ok (i ∷ s)
with_place i (Err f) = Err f

-- one part, and what follows it
abbrev pub with_part : Result Part StateFault → (Part → Result (List ℕ) StateFault) → Result (List ℕ) StateFault
with_part (Ok p) after = with_place p.place (after p)
with_part (Err f) after = Err f

-- the parts of these variables in a text that begins at a byte, and nothing behind them
abbrev pub told_parts : List Shown → Text → ℕ → Text → Result (List ℕ) StateFault
told_parts [] mark at [] = Ok []
told_parts [] mark at (b ∷ z) = Err (fault_at kind.Trailing at)
told_parts (x ∷ xs) mark at z = with_part (told_part x mark at z) (λ p. told_parts xs (codes ",") (at + p.len) (drop p.len z))

-- the word for no variables, and nothing else
abbrev pub told_all : Text → Result (List ℕ) StateFault
told_all z = if bytes_eq z (codes "all") then Ok [] else Err (fault_at kind.Expected 0)

-- The places of the values that a text tells, or its first fault. For each variable in order the text goes on with `,` (not before the
-- first), the name and `=`, else Expected, at the place where these should begin. Then the bytes up to the next `,` or the end are a value of
-- the variable, else Value, at their first byte. Bytes after the last value are Trailing, at the first of them.
abbrev pub told : List Shown → Text → Result (List ℕ) StateFault
told [] z = told_all z
told (x ∷ xs) z = told_parts (x ∷ xs) [] 0 z

-- no integer, or one of 32 bits
abbrev pub is_small_value : Value → Bool
is_small_value (value.Int n) = is_small n
is_small_value _ = true

-- those of the variables at these places
abbrev pub are_small : List Var → List ℕ → Bool
are_small (x ∷ xs) (i ∷ s) = is_small_value (item x.values i) && are_small xs s
are_small _ _ = true

-- the fault of what is told
abbrev pub fault_of : Result (List ℕ) StateFault → Option StateFault
fault_of (Ok s) = None
fault_of (Err f) = Some f

-- the first fault of a text that should be a state
abbrev pub state_fault : List Shown → Text → Option StateFault
state_fault xs z = fault_of (told xs z)

-- the text is refused for its first fault, or for want of memory
abbrev pub IsRefusal : Option StateFault → StateRefused → Type 0
IsRefusal fault (refused.Fault f) = fault ≡ Some f
IsRefusal fault refused.Memory = Unit {0}

-- the text of a typed state
abbrev pub IsStateText : Model → Text → Type 0
IsStateText m z = (s : State) × (IsTrue (is_typed m s) × (z ≡ state_text (shown_vars m) s))
