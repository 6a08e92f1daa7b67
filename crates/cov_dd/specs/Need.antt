-- The number of nodes that a list of functions needs.
use Rattle.std.specs.Prelude.{◌≡◌, ◌≢◌, ℕ, zero, suc, ◌<◌, ◌-◌, ◌++◌, List, [], ◌∷◌, Bool, true, false, length, map, get_or}

-- all rows of so many bits
abbrev pub rows : ℕ → List (List Bool)
rows zero = [] ∷ []
rows (suc n) = map (λ r. false ∷ r) (rows n) ++ map (λ r. true ∷ r) (rows n)

-- a function of so many bits, as the list of its values
unfoldable pub values : ℕ → (List Bool → Bool) → List Bool
values n function = map function (rows n)

-- a level, and what one of the functions becomes when its bits below that level are fixed in some way, if that depends on the bit of the level
pub record IsNeeded (levels : ℕ) (functions : List (List Bool → Bool)) (pair : ℕ × List Bool) : Type 0 where
  pub level : pair.0 < levels
  pub first : List Bool
  pub bits : length first ≡ pair.0
  pub of : ℕ
  pub within : of < length functions
  pub is : pair.1 ≡ values (levels - pair.0) (λ rest. get_or functions of (λ _. false) (first ++ rest))
  pub depends : (half : List Bool) → pair.1 ≢ half ++ half

-- pairwise different needed pairs
pub record AreNeeded (levels : ℕ) (functions : List (List Bool → Bool)) (pairs : List (ℕ × List Bool)) : Type 0 where
  pub each : (i : ℕ) → i < length pairs → IsNeeded levels functions (get_or pairs i (0, []))
  pub distinct : (i j : ℕ) → i < length pairs → j < length pairs → get_or pairs i (0, []) ≡ get_or pairs j (0, []) → i ≡ j

-- the functions need more nodes than this
abbrev pub NeedMoreThan : ℕ → List (List Bool → Bool) → ℕ → Type 0
NeedMoreThan levels functions count = (pairs : List (ℕ × List Bool)) × (length pairs ≡ suc count) × AreNeeded levels functions pairs
