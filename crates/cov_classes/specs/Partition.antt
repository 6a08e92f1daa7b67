-- What the cubes of a set are to its states.
use Rattle.std.specs.Prelude.{◌≡◌, ℕ, ◌+◌, ◌<◌, ◌==◌, Bool, true, false, ◌&&◌, if◌then◌else◌, nat_lt, nat_le, List, [], ◌∷◌, find, slice_get, Option, Some, None, IsTrue}
use Rattle.std.specs.List.{list_any}
use Rattle.cov_classes.specs.Cubes.{Set, states, cubes}

-- one place for each variable, each below the number of its values
abbrev pub is_typed : List ℕ → List ℕ → Bool
is_typed [] [] = true
is_typed (n ∷ ns) (v ∷ s) = nat_lt v n && is_typed ns s
is_typed _ _ = false

-- the place stands in the class
abbrev pub has : List ℕ → ℕ → Bool
has class v = list_any (λ w. w == v) class

-- a state lies in a cube where each of its places stands in the class of its variable
abbrev pub lies_in : List (List ℕ) → List ℕ → Bool
lies_in [] [] = true
lies_in (class ∷ cube) (v ∷ s) = has class v && lies_in cube s
lies_in _ _ = false

-- in how many of the cubes a state lies
abbrev pub times : List (List (List ℕ)) → List ℕ → ℕ
times [] s = 0
times (c ∷ cs) s = if lies_in c s then 1 + times cs s else times cs s

-- Each state of the set lies in exactly one of its cubes, and no other state lies in one.
pub record IsPartition (counts : List ℕ) (set : Set) : Type 0 where
  pub each : (s : List ℕ) → IsTrue (is_typed counts s) → times (cubes counts set) s ≡ (if set s then 1 else 0)
  -- no two cubes have a state in common
  pub disjoint : (s : List ℕ) (i j : ℕ) (c d : List (List ℕ)) → i < j → slice_get (cubes counts set) i ≡ Some c → slice_get (cubes counts set) j ≡ Some d
      → IsTrue (is_typed counts s) → IsTrue (lies_in c s) → IsTrue (lies_in d s) → ⊥

-- places from `low` on, ascending, each below the number of values
abbrev pub are_ascending : ℕ → ℕ → List ℕ → Bool
are_ascending low n [] = true
are_ascending low n (v ∷ vs) = nat_le low v && nat_lt v n && are_ascending (v + 1) n vs

-- a class is not empty, and its places ascend
abbrev pub is_class : ℕ → List ℕ → Bool
is_class n [] = false
is_class n (v ∷ vs) = are_ascending 0 n (v ∷ vs)

-- one class for each variable
abbrev pub is_cube : List ℕ → List (List ℕ) → Bool
is_cube [] [] = true
is_cube (n ∷ ns) (class ∷ cube) = is_class n class && is_cube ns cube
is_cube _ _ = false

-- the first state by value places: the places of the first variable decide before those of the second
abbrev pub first_state : List ℕ → Set → Option (List ℕ)
first_state counts set = find set (states counts)

-- the first state differs from another first at a variable where it has the lesser place
abbrev pub comes_before : List ℕ → List ℕ → Bool
comes_before (v ∷ s) (w ∷ t) = if v == w then comes_before s t else nat_lt v w
comes_before _ _ = false

-- a typed state of the set that comes before every other one; or there is none
abbrev pub IsFirst : List ℕ → Set → Option (List ℕ) → Type 0
IsFirst counts set (Some s) = IsTrue (is_typed counts s) × IsTrue (set s) × ((t : List ℕ) → IsTrue (is_typed counts t) → IsTrue (set t) → IsTrue (comes_before t s) → ⊥)
IsFirst counts set None = (t : List ℕ) → IsTrue (is_typed counts t) → IsTrue (set t) → ⊥
