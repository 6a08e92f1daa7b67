-- Families of sets: one set of rows for a list of values, the number of a value being held in a field.
use Rattle.std.specs.Prelude.{◌≡◌, ℕ, zero, suc, ◌+◌, ◌*◌, ◌^◌, ◌<◌, ◌≤◌, ◌&&◌, ◌||◌, ◌==◌, if◌then◌else◌, List, [], ◌∷◌, Bool, false, length, get_or, Option, Some, None}
use Rattle.cov_dd.specs.Need.{values}
use Rattle.cov_bits.specs.Layout.{width}
use Rattle.cov_space.specs.declared.layer.Layer.TheVariants.{W}
use Rattle.cov_space.specs.Sets.{lies}
use Rattle.cov_fields.specs.declared.field.Field.{Field}
use Rattle.cov_fields.specs.Fields.{IsField, held, written}
use Rattle.cov_families.specs.declared.table.Table.{Table}

-- the field on layer W that numbers so many values
abbrev pub index_of : ℕ → Field
index_of count = record { layer = W; first = 0; width = width count }

-- this number
abbrev pub names : Option ℕ → ℕ → Bool
names None k = false
names (Some j) k = j == k

-- a number fits a field
abbrev pub FitsField : Field → Option ℕ → Type 0
FitsField f None = Unit {0}
FitsField f (Some k) = k < 2 ^ f.width

-- each number fits
abbrev pub AllFit : Field → List (Option ℕ) → Type 0
AllFit f [] = Unit {0}
AllFit f (t ∷ ts) = FitsField f t × AllFit f ts

-- the number to which a number is sent
abbrev pub target : List (Option ℕ) → ℕ → Option ℕ
target ts i = get_or ts i None

-- the test holds for some number below this one
abbrev pub some_below : ℕ → (ℕ → Bool) → Bool
some_below zero test = false
some_below (suc n) test = some_below n test || test n

-- the rows whose number is picked
abbrev pub listed_set : ℕ → List Bool → List Bool
listed_set levels picks = values levels (λ row. get_or picks (held (index_of (length picks)) row) false)

-- the rows of a set with one number in a field, and those outside with another
abbrev pub choice_set : ℕ → Field → Option ℕ → Option ℕ → List Bool → List Bool
choice_set levels f inside outside set = values levels (λ row. names (if lies set row then inside else outside) (held f row))

-- the rows of the second set that lie in the first, and those of the third that do not
abbrev pub if_set : ℕ → List Bool → List Bool → List Bool → List Bool
if_set levels guard then' other = values levels (λ row. if lies guard row then lies then' row else lies other row)

-- the rows that hold a number in one field, and its target in the other
abbrev pub read_set : ℕ → Field → Field → List (Option ℕ) → List Bool
read_set levels from to ts = values levels (λ row. names (target ts (held from row)) (held to row))

-- the rows that hold the target of a number, and lie in the set with the number written in the field
abbrev pub carried_set : ℕ → Field → Field → List (Option ℕ) → List Bool → List Bool
carried_set levels from to ts set = values levels (λ row. some_below (length ts) (λ i. lies set (written from i row) && names (target ts i) (held to row)))

-- the number to which two numbers are sent
abbrev pub entry : Table → ℕ → ℕ → Option ℕ
entry t i j = target t.targets (i * t.columns + j)

-- a table whose numbers and whose targets fit
pub record IsTable (levels : ℕ) (t : Table) (count : ℕ) : Type 0 where
  pub some_rows : 0 < t.rows
  pub some_columns : 0 < t.columns
  pub some_targets : 0 < count
  pub few_rows : t.rows ≤ 1024
  pub few_columns : t.columns ≤ 1024
  pub few_targets : count ≤ 1024
  pub whole : length t.targets ≡ t.rows * t.columns
  pub first : IsField levels (index_of t.rows)
  pub second : IsField levels (index_of t.columns)
  pub to : IsField levels (index_of count)
  pub fit : (i j k : ℕ) → i < t.rows → j < t.columns → entry t i j ≡ Some k → k < count

-- the rows that hold the target of two numbers, and lie in the first set with the one number written and in the second with the other
abbrev pub combined_set : ℕ → Table → ℕ → List Bool → List Bool → List Bool
combined_set levels t count a b = values levels (λ row.
    some_below t.rows (λ i. lies a (written (index_of t.rows) i row)
    && some_below t.columns (λ j. lies b (written (index_of t.columns) j row) && names (entry t i j) (held (index_of count) row))))
