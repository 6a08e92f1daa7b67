-- What is left of a set of states once the places of the first variables are fixed.
use Rattle.std.specs.Prelude.{◌≡◌, ℕ, ◌+◌, ◌*◌, ◌≤◌, ◌<◌, List, ◌++◌, Bool, length, drop, get_or, IsTrue, Option, Some, None}
use Rattle.cov_classes.specs.Cubes.{Set}
use Rattle.cov_bits.specs.Layout.{bits, first, are_places, IsSize}
use Rattle.cov_cubes.specs.declared.variable.Variable.{Variable}
use Rattle.cov_space.specs.declared.layer.Layer.TheVariants.{V}
use Rattle.cov_space.specs.Sets.{SpaceOf, lies}
use Rattle.cov_space.specs.Answers.{PutsSet}
use Rattle.cov_fields.specs.declared.field.Field.{Field}
use Rattle.cov_fields.specs.Fields.{field_of, IsField}
use Rattle.cov_fields.specs.Sets.{rest_set, IsEmpty}
use Rattle.cov_cubes.specs.States.{states_from, places_at}

-- a set of rows depends on the bits of these variables alone, and each of its rows holds places of theirs
pub record IsRest (levels from : ℕ) (ns : List ℕ) (set : List Bool) : Type 0 where
  pub there : 3 * (from + bits ns) ≤ levels
  pub same : (r : List Bool) → length r ≡ levels → lies set r ≡ states_from from ns levels set (places_at from ns r)
  pub typed : (r : List Bool) → length r ≡ levels → IsTrue (lies set r) → IsTrue (are_places ns (places_at from ns r))

-- the states of the variables of a plan from one on
abbrev pub states_of : ℕ → List ℕ → ℕ → List Bool → Set
states_of levels ns var set = states_from (first ns var) (drop var ns) levels set

-- a set of rows is a rest set of these variables
abbrev pub IsRestOf : ℕ → List ℕ → ℕ → List Bool → Type 0
IsRestOf levels ns var set = IsRest levels (first ns var) (drop var ns) set

-- the bits of a variable on layer V, and how many values it has
pub record IsVariable (ns : List ℕ) (var : ℕ) (y : Variable) : Type 0 where
  pub field : y.field ≡ field_of ns var V
  pub fits : IsField (3 * bits ns) y.field
  pub size : y.size ≡ get_or ns var 0
  pub sized : IsSize y.size

-- none of the first values has a rest set with a row
abbrev pub AllEmpty : ℕ → Field → List Bool → ℕ → Type 0
AllEmpty levels f set count = (v : ℕ) → v < count → IsEmpty levels (rest_set levels f v set)

-- the least of so many values whose rest set has a row
pub record IsLeast (levels : ℕ) (f : Field) (set : List Bool) (count v : ℕ) : Type 0 where
  pub below : v < count
  pub none : AllEmpty levels f set v
  pub some : IsEmpty levels (rest_set levels f v set) → ⊥

-- the rest set of the least value that has a row is put; or there is no such value, and the sets are as before
abbrev pub PutsLeast : SpaceOf → SpaceOf → Field → List Bool → ℕ → Option ℕ → Type 0
PutsLeast old new f set count (Some v) = IsLeast old.levels f set count v × PutsSet old new (rest_set old.levels f v set)
PutsLeast old new f set count None = AllEmpty old.levels f set count × (new ≡ old)

-- a state behind the places of the variables before
abbrev pub after : List ℕ → Option (List ℕ) → Option (List ℕ)
after front (Some s) = Some (front ++ s)
after front None = None
