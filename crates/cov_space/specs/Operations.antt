-- The sets that the operations give.
use Rattle.std.specs.Prelude.{◌≡◌, ℕ, ◌<◌, ◌⊎◌, ◌↔◌, List, [], ◌∷◌, Bool, true, false, not, ◌&&◌, ◌||◌, length, get_or, if◌then◌else◌}
use Rattle.cov_dd.specs.Operations.{put}
use Rattle.cov_dd.specs.Need.{values}
use Rattle.cov_space.specs.Sets.{lies}

-- all rows, or none
abbrev pub constant_set : ℕ → Bool → List Bool
constant_set levels truth = values levels (λ row. truth)

-- the rows whose bit at a level is set
abbrev pub bit_set : ℕ → ℕ → List Bool
bit_set levels level = values levels (λ row. get_or row level false)

-- the rows in both sets
abbrev pub intersection : ℕ → List Bool → List Bool → List Bool
intersection levels a b = values levels (λ row. lies a row && lies b row)

-- the rows in one of the sets at least
abbrev pub union : ℕ → List Bool → List Bool → List Bool
union levels a b = values levels (λ row. lies a row || lies b row)

-- the rows in one of the sets alone
abbrev pub symmetric_difference : ℕ → List Bool → List Bool → List Bool
symmetric_difference levels a b = values levels (λ row. if lies a row then not (lies b row) else lies b row)

-- the rows that are not in the set
abbrev pub complement : ℕ → List Bool → List Bool
complement levels a = values levels (λ row. not (lies a row))

-- the rows that lie in the set once the bit of a level is written
abbrev pub restriction : ℕ → List Bool → ℕ → Bool → List Bool
restriction levels a level bit = values levels (λ row. lies a (put row level bit))

-- the test is true for some bits at the levels
abbrev pub some_at : List ℕ → (List Bool → Bool) → List Bool → Bool
some_at [] test row = test row
some_at (l ∷ ls) test row = some_at ls test (put row l false) || some_at ls test (put row l true)

-- the rows that lie in the set for some bits at the levels
abbrev pub projection : ℕ → List ℕ → List Bool → List Bool
projection levels ls a = values levels (some_at ls (lies a))

-- each level is there
abbrev pub AllBelow : ℕ → List ℕ → Type 0
AllBelow levels ls = (k : ℕ) → k < length ls → get_or ls k 0 < levels

-- the level is one of the list
abbrev pub IsNamed : List ℕ → ℕ → Type 0
IsNamed [] k = ⊥
IsNamed (l ∷ ls) k = (l ≡ k) ⊎ IsNamed ls k

-- two rows of as many bits as levels that differ at the levels of the list alone
pub record Agree (levels : ℕ) (ls : List ℕ) (row other : List Bool) : Type 0 where
  pub long : length other ≡ levels
  pub same : (k : ℕ) → k < levels → (IsNamed ls k → ⊥) → get_or other k false ≡ get_or row k false

-- a row lies in the result exactly where a row lies in the set that differs from it at the levels of the list alone
abbrev pub IsSomeOf : ℕ → List ℕ → List Bool → List Bool → Type 0
IsSomeOf levels ls set result = (row : List Bool) → length row ≡ levels → (lies result row ≡ true) ↔ ((other : List Bool) × Agree levels ls row other × (lies set other ≡ true))
