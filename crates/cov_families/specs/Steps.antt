-- The steps by which a family is made: sets are added to one set in turn.
use Rattle.std.specs.Prelude.{◌≡◌, ℕ, zero, suc, ◌+◌, ◌*◌, ◌<◌, ◌≤◌, ◌&&◌, ◌||◌, ◌==◌, List, [], ◌∷◌, ◌++◌, Bool, false, length, take, Option, Some, None}
use Rattle.cov_dd.specs.Need.{values}
use Rattle.cov_space.specs.Sets.{SpaceOf, lies, set_at}
use Rattle.cov_space.specs.Steps.{with_more}
use Rattle.cov_fields.specs.declared.field.Field.{Field}
use Rattle.cov_fields.specs.Fields.{held, written, IsField}
use Rattle.cov_families.specs.declared.table.Table.{Table}
use Rattle.cov_families.specs.Families.{names, target, entry, some_below, index_of}

-- the rows that hold this number in a field
abbrev pub named_set : ℕ → Field → Option ℕ → List Bool
named_set levels f number = values levels (λ row. names number (held f row))

-- the set at a place has the rows of a test as well, and no set stands behind it
pub record Adds (old new : SpaceOf) (place : ℕ) (test : List Bool → Bool) : Type 0 where
  pub is : new ≡ record old { sets = take place old.sets ++ values old.levels (λ row. lies (set_at old.sets place) row || test row) ∷ [] }
  pub count : length new.sets ≡ place + 1

-- the rows that pass the test of some number below this one
abbrev pub some_set : ℕ → ℕ → (List Bool → ℕ → Bool) → List Bool
some_set levels count test = values levels (λ row. some_below count (test row))

-- behind the sets of before stands the set of the rows that pass the test of some number below this one
pub record Gathers (old s : SpaceOf) (n : ℕ) (test : List Bool → ℕ → Bool) : Type 0 where
  pub is : s ≡ with_more old (some_set old.levels n test ∷ [])
  pub count : length s.sets ≡ length old.sets + 1
  pub places : s.places ≡ old.places
  pub levels : s.levels ≡ old.levels

-- the sets of so many numbers in turn
abbrev pub in_turn : ℕ → (ℕ → List Bool) → List (List Bool)
in_turn zero set = []
in_turn (suc n) set = in_turn n set ++ set n ∷ []

-- a row holds a number in one field, and its target in the other
abbrev pub reads : Field → Field → List (Option ℕ) → List Bool → ℕ → Bool
reads from to ts row i = held from row == i && names (target ts i) (held to row)

-- a row holds the target of a number, and lies in the set with the number written
abbrev pub carries : Field → Field → List (Option ℕ) → List Bool → List Bool → ℕ → Bool
carries from to ts set row i = lies set (written from i row) && names (target ts i) (held to row)

-- a row lies in the set of the target, which stands so many places behind the first one
abbrev pub in_code : List (List Bool) → ℕ → Option ℕ → List Bool → Bool
in_code sets codes None row = false
in_code sets codes (Some k) row = lies (set_at sets (codes + k)) row

-- a row lies in the standing set of a column, and in that of its target
abbrev pub in_column : List (List Bool) → ℕ → ℕ → Table → ℕ → List Bool → ℕ → Bool
in_column sets rests codes t i row j = lies (set_at sets (rests + j)) row && in_code sets codes (entry t i j) row

-- a row lies in the first set with the number of a table's row written, and passes for some column
abbrev pub in_row : List (List Bool) → ℕ → ℕ → Table → List Bool → List Bool → ℕ → Bool
in_row sets rests codes t a row i = lies a (written (index_of t.rows) i row) && some_below t.columns (in_column sets rests codes t i row)

-- the target of a number stands
abbrev pub Stands : List (List Bool) → ℕ → Option ℕ → Type 0
Stands sets codes None = Unit {0}
Stands sets codes (Some k) = codes + k < length sets

-- each column and each target of a table stands
pub record HasColumns (sets : List (List Bool)) (rests codes : ℕ) (t : Table) : Type 0 where
  pub whole : length t.targets ≡ t.rows * t.columns
  pub columns : rests + t.columns ≤ length sets
  pub targets : (i j : ℕ) → i < t.rows → j < t.columns → Stands sets codes (entry t i j)

-- the rows of a table are numbered by a field
pub record HasRows (levels : ℕ) (t : Table) : Type 0 where
  pub some : 0 < t.rows
  pub few : t.rows ≤ 1024
  pub there : IsField levels (index_of t.rows)
