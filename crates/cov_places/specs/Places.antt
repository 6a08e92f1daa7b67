-- The states that the rows of a Space name on each layer.
use Rattle.std.specs.Prelude.{ℕ, ◌+◌, List, [], ◌∷◌, Bool}
use Rattle.cov_dd.specs.Need.{values}
use Rattle.cov_bits.specs.Layout.{width, are_places}
use Rattle.cov_space.specs.declared.layer.Layer.{Layer}
use Rattle.cov_fields.specs.Fields.{held}

-- the place of each variable that a row holds on a layer, from a first bit on
abbrev pub places_from : Layer → ℕ → List ℕ → List Bool → List ℕ
places_from layer first [] row = []
places_from layer first (n ∷ ns) row = held (record { layer = layer; first = first; width = width n }) row ∷ places_from layer (first + width n) ns row

-- the state that a row names on a layer, typed or not, for the numbers of values of all variables
abbrev pub state_on : List ℕ → Layer → List Bool → List ℕ
state_on ns layer row = places_from layer 0 ns row

-- whether that state is typed
abbrev pub is_typed_on : List ℕ → Layer → List Bool → Bool
is_typed_on ns layer row = are_places ns (state_on ns layer row)

-- the rows whose state on a layer is typed
abbrev pub typed_set : ℕ → List ℕ → Layer → List Bool
typed_set levels ns layer = values levels (λ row. is_typed_on ns layer row)
