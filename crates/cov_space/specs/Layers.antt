-- The levels of a layer, three apart.
use Rattle.std.specs.Prelude.{◌≡◌, ◌≢◌, ℕ, ◌<◌, ◌+◌, ◌*◌, List, [], ◌∷◌, Bool, false, length, get_or}
use Rattle.cov_dd.specs.Need.{values}
use Rattle.cov_dd.specs.Operations.{Ignores}
use Rattle.cov_space.specs.declared.layer.Layer.{Layer}
use Rattle.cov_space.specs.declared.layer.Layer.TheVariants.{W, V, N}
use Rattle.cov_space.specs.Sets.{lies}

-- the level of bit 0; that of bit b is three times b further
abbrev pub place_of : Layer → ℕ
place_of W = 0
place_of V = 1
place_of N = 2

-- the one of three bits that belongs to a layer
abbrev pub of_three : Layer → Bool → Bool → Bool → Bool
of_three W w v n = w
of_three V w v n = v
of_three N w v n = n

-- three bits with that of a layer exchanged, before further bits
abbrev pub with_three : Layer → Bool → Bool → Bool → Bool → List Bool → List Bool
with_three W x w v n rest = x ∷ v ∷ n ∷ rest
with_three V x w v n rest = w ∷ x ∷ n ∷ rest
with_three N x w v n rest = w ∷ v ∷ x ∷ rest

-- the row that has at the layer `from` its bits of the layer `to`
abbrev pub read_at : Layer → Layer → List Bool → List Bool
read_at from to [] = []
read_at from to (w ∷ []) = w ∷ []
read_at from to (w ∷ v ∷ []) = w ∷ v ∷ []
read_at from to (w ∷ v ∷ n ∷ rest) = with_three from (of_three to w v n) w v n (read_at from to rest)

-- the set that is read on the other layer
abbrev pub shift_set : ℕ → Layer → Layer → List Bool → List Bool
shift_set levels from to set = values levels (λ row. lies set (read_at from to row))

-- a set does not depend on a layer
abbrev pub IgnoresLayer : ℕ → Layer → List Bool → Type 0
IgnoresLayer levels layer set = (b : ℕ) → 3 * b + place_of layer < levels → Ignores levels (3 * b + place_of layer) (lies set)

-- A row lies in the result exactly where a row lies in the set that has, at each level of the layer `from`, the row's bit at that level of the layer `to`, and elsewhere the row's own bits.
abbrev pub IsShifted : ℕ → Layer → Layer → List Bool → List Bool → Type 0
IsShifted levels from to set result =
    (row other : List Bool) → length row ≡ levels → length other ≡ levels
    → ((b : ℕ) → 3 * b + place_of from < levels → get_or other (3 * b + place_of from) false ≡ get_or row (3 * b + place_of to) false)
    → ((k : ℕ) → k < levels → ((b : ℕ) → k ≢ 3 * b + place_of from) → get_or other k false ≡ get_or row k false)
    → lies result row ≡ lies set other
