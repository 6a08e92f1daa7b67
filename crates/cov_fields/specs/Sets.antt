-- Sets of rows by what they hold in a field.
use Rattle.std.specs.Prelude.{◌≡◌, ℕ, ◌==◌, List, Bool, false, length}
use Rattle.cov_dd.specs.Need.{values}
use Rattle.cov_space.specs.Sets.{lies}
use Rattle.cov_fields.specs.declared.field.Field.{Field}
use Rattle.cov_fields.specs.Fields.{held, written}

-- the rows that hold a number
abbrev pub number_set : ℕ → Field → ℕ → List Bool
number_set levels f k = values levels (λ row. held f row == k)

-- the rest set of a number: the rows that lie in the set once it is written
abbrev pub rest_set : ℕ → Field → ℕ → List Bool → List Bool
rest_set levels f k set = values levels (λ row. lies set (written f k row))

-- no row lies in the set
abbrev pub IsEmpty : ℕ → List Bool → Type 0
IsEmpty levels set = (row : List Bool) → length row ≡ levels → lies set row ≡ false
