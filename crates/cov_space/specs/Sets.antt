-- Sets of bit rows, and the list of sets that a Space stands for.
use Rattle.std.specs.Prelude.{◌≡◌, ℕ, ◌+◌, ◌^◌, ◌≤◌, List, [], ◌∷◌, Bool, false, length, map, get_or, if◌then◌else◌}
use Rattle.cov_dd.specs.Need.{NeedMoreThan}

-- the place of a row in the list of all rows of as many bits
abbrev pub number : List Bool → ℕ
number [] = 0
number (b ∷ row) = if b then 2 ^ length row + number row else number row

-- whether a row lies in a set; a set is the list of its test's values at all rows, in their order
abbrev pub lies : List Bool → List Bool → Bool
lies set row = get_or set (number row) false

-- the set at a place of a list
abbrev pub set_at : List (List Bool) → ℕ → List Bool
set_at sets k = get_or sets k []

-- what a Space is to its callers
pub record SpaceOf : Type 0 where
  pub levels : ℕ
  pub budget : ℕ
  pub places : ℕ
  pub refused : ℕ
  pub sets : List (List Bool)

-- so many places are free
abbrev pub HasRoom : SpaceOf → ℕ → Type 0
HasRoom s count = length s.sets + count ≤ s.places

-- two sets whose tests agree at each row
abbrev pub SameSets : ℕ → List Bool → List Bool → Type 0
SameSets levels a b = (row : List Bool) → length row ≡ levels → lies a row ≡ lies b row

-- the sets need more nodes than this
abbrev pub SetsNeedMoreThan : ℕ → List (List Bool) → ℕ → Type 0
SetsNeedMoreThan levels sets count = NeedMoreThan levels (map lies sets) count
