-- The steps by which the set of the typed rows is made, variable by variable.
use Rattle.std.specs.Prelude.{ℕ, nat_lt, List, Bool}
use Rattle.cov_dd.specs.Need.{values}
use Rattle.cov_fields.specs.declared.field.Field.{Field}
use Rattle.cov_fields.specs.Fields.{held}

-- the rows that hold a number below this in a field
abbrev pub below_set : ℕ → Field → ℕ → List Bool
below_set levels f size = values levels (λ row. nat_lt (held f row) size)
