-- Names and lists of them.
use Rattle.std.specs.Prelude.{ℕ, ◌+◌, if◌then◌else◌, Bool, true, false, ◌&&◌, ◌||◌, ◌==◌, ◌≡◌, List, [], ◌∷◌, ◌++◌, map, option_map, slice_get, unwrap_or, Option, Some, None}
use Rattle.std.specs.List.{list_any, join_with_byte}

-- A dotted name: the numbers of its parts.
abbrev pub Dotted : Type 0
Dotted = List ℕ

-- both have the same parts
abbrev pub same_name : Dotted → Dotted → Bool
same_name [] [] = true
same_name (i ∷ is) (j ∷ js) = (i == j) && same_name is js
same_name _ _ = false

-- whether a name stands in the list
abbrev pub has : List ℕ → ℕ → Bool
has xs i = list_any (λ j. j == i) xs

-- the text of a name
abbrev pub text : List (List ℕ) → ℕ → List ℕ
text names i = unwrap_or (slice_get names i) []

-- the parts, with dots between them
abbrev pub spelled : List (List ℕ) → Dotted → List ℕ
spelled names d = join_with_byte 46 (map (text names) d)

-- the first that is there
abbrev pub first : {A : Type 0} → List (Option A) → Option A
first [] = None
first (None ∷ xs) = first xs
first (Some x ∷ xs) = Some x

-- the place of the first that is this name
abbrev pub place_of : List ℕ → ℕ → Option ℕ
place_of [] i = None
place_of (j ∷ js) i = if j == i then Some 0 else option_map (λ k. k + 1) (place_of js i)

-- the same names stand in both lists
abbrev pub HasSame : List ℕ → List ℕ → Type 0
HasSame xs ys = (i : ℕ) → has xs i ≡ has ys i

-- the new list has one more name than the old
abbrev pub Adds : List ℕ → List ℕ → ℕ → Type 0
Adds old new name = (i : ℕ) → has new i ≡ ((name == i) || has old i)

-- the new list has these names beside the old
abbrev pub AddsAll : List ℕ → List ℕ → List ℕ → Type 0
AddsAll old new names = (i : ℕ) → has new i ≡ (has names i || has old i)

-- a name is put last where it does not stand yet
abbrev pub with_name : List ℕ → ℕ → List ℕ
with_name names i = if has names i then names else names ++ i ∷ []
