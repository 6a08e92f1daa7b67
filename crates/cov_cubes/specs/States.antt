-- Sets of states as sets of rows: a state's row has the place of each variable on layer V.
use Rattle.std.specs.Prelude.{◌≡◌, ℕ, zero, suc, ◌+◌, List, [], ◌∷◌, Bool, false, length, IsTrue}
use Rattle.cov_classes.specs.Cubes.{Set}
use Rattle.cov_bits.specs.Layout.{width, bits, are_places, code, row}
use Rattle.cov_space.specs.declared.layer.Layer.TheVariants.{W, V, N}
use Rattle.cov_space.specs.Sets.{lies}
use Rattle.cov_space.specs.Layers.{place_of, IgnoresLayer}
use Rattle.cov_fields.specs.declared.field.Field.{Field}
use Rattle.cov_fields.specs.Fields.{written, put_bits}
use Rattle.cov_places.specs.Places.{places_from}

-- the field of a variable on layer V, by its first bit and the number of its values
abbrev pub present : ℕ → ℕ → Field
present first n = record { layer = V; first = first; width = width n }

-- the row with the place of each variable in its field on layer V, from a first bit on
abbrev pub placed : ℕ → List ℕ → List ℕ → List Bool → List Bool
placed first [] s r = r
placed first (n ∷ ns) [] r = r
placed first (n ∷ ns) (v ∷ s) r = written (present first n) v (placed (first + width n) ns s r)

-- the row without a bit
abbrev pub blank : ℕ → List Bool
blank zero = []
blank (suc levels) = false ∷ blank levels

-- the set of the states whose rows lie in the set of rows, for variables from a first bit on
abbrev pub states_from : ℕ → List ℕ → ℕ → List Bool → Set
states_from first ns levels set s = lies set (placed first ns s (blank levels))

-- the same for all variables
abbrev pub states_in : List ℕ → ℕ → List Bool → Set
states_in ns levels set = states_from 0 ns levels set

-- the place of each variable that a row holds on layer V, from a first bit on
abbrev pub places_at : ℕ → List ℕ → List Bool → List ℕ
places_at first ns r = places_from V first ns r

-- a set of rows that is a set of typed states: it depends on layer V alone, and each of its rows holds places of the variables there
pub record IsStateSet (ns : List ℕ) (levels : ℕ) (set : List Bool) : Type 0 where
  pub apart_w : IgnoresLayer levels W set
  pub apart_n : IgnoresLayer levels N set
  pub typed : (r : List Bool) → length r ≡ levels → IsTrue (lies set r) → IsTrue (are_places ns (places_at 0 ns r))

-- the row of a typed state is that of its code on layer V
abbrev pub CodeLaw : Type 0
CodeLaw = (ns s : List ℕ) (r : List Bool) → IsTrue (are_places ns s) → placed 0 ns s r ≡ put_bits (place_of V) (row (bits ns) (code ns s)) r
