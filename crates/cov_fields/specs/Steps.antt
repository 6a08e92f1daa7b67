-- The steps by which the sets of a field are made, bit by bit from the last one on.
use Rattle.std.specs.Prelude.{ℕ, ◌-◌, ◌&&◌, not, if◌then◌else◌, List, [], ◌∷◌, Bool, true, false}
use Rattle.cov_dd.specs.Need.{values}
use Rattle.cov_bits.specs.Layout as layout
use Rattle.cov_space.specs.Sets.{lies}
use Rattle.cov_space.specs.Operations.{bit_set, complement}
use Rattle.cov_fields.specs.declared.field.Field.{Field}
use Rattle.cov_fields.specs.Fields.{level_of, bits_at, put_bits}

-- the rows with this bit at a level
abbrev pub rows_with_bit : ℕ → ℕ → Bool → List Bool
rows_with_bit levels level bit = if bit then bit_set levels level else complement levels (bit_set levels level)

-- whether two lists have the same bits
abbrev pub same_bits : List Bool → List Bool → Bool
same_bits [] [] = true
same_bits (a ∷ as') (b ∷ bs) = (if b then a else not a) && same_bits as' bs
same_bits _ _ = false

-- the rows that hold the last digits of a number in the last bits of a field
abbrev pub number_from : ℕ → Field → ℕ → ℕ → List Bool
number_from levels f k count = values levels (λ row. same_bits (bits_at (level_of f (f.width - count)) count row) (layout.row count k))

-- the rows that lie in the set once the last digits are written
abbrev pub rest_from : ℕ → Field → ℕ → ℕ → List Bool → List Bool
rest_from levels f k count set = values levels (λ row. lies set (put_bits (level_of f (f.width - count)) (layout.row count k) row))
