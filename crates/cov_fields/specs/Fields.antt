-- The bits of a variable on one layer of a row, and the number that they are.
use Rattle.std.specs.Prelude.{ℕ, zero, suc, ◌+◌, ◌*◌, ◌≤◌, List, [], ◌∷◌, Bool, false, get_or}
use Rattle.cov_dd.specs.Operations.{put}
use Rattle.cov_bits.specs.Layout as layout
use Rattle.cov_space.specs.declared.layer.Layer.{Layer}
use Rattle.cov_space.specs.Layers.{place_of}
use Rattle.cov_fields.specs.declared.field.Field.{Field}

-- the level of a bit of a field; bit 0 is the most significant one
abbrev pub level_of : Field → ℕ → ℕ
level_of f i = 3 * (f.first + i) + place_of f.layer

-- each bit has its level, and there are no more bits than a variable has
pub record IsField (levels : ℕ) (f : Field) : Type 0 where
  pub there : 3 * (f.first + f.width) ≤ levels
  pub narrow : f.width ≤ 10

-- the field of a variable on a layer, for the numbers of values of all variables
abbrev pub field_of : List ℕ → ℕ → Layer → Field
field_of ns var layer = record { layer = layer; first = layout.first ns var; width = layout.width (get_or ns var 0) }

-- so many bits of a row, from a level on, at levels three apart
abbrev pub bits_at : ℕ → ℕ → List Bool → List Bool
bits_at level zero row = []
bits_at level (suc count) row = get_or row level false ∷ bits_at (level + 3) count row

-- the row with these bits from a level on, at levels three apart
abbrev pub put_bits : ℕ → List Bool → List Bool → List Bool
put_bits level [] row = row
put_bits level (b ∷ bs) row = put (put_bits (level + 3) bs row) level b

-- the number that a row holds in a field
abbrev pub held : Field → List Bool → ℕ
held f row = layout.number (bits_at (level_of f 0) f.width row)

-- the row with a number written in a field, and elsewhere as it is
abbrev pub written : Field → ℕ → List Bool → List Bool
written f k row = put_bits (level_of f 0) (layout.row f.width k) row
