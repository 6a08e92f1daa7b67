-- The steps of the search for cubes.
use Rattle.std.specs.Prelude.{ℕ, ◌+◌, ◌&&◌, ◌||◌, not, if◌then◌else◌, nat_lt, List, [], ◌∷◌, ◌++◌, Bool, true, false, length, take, map, filter, flat_map}
use Rattle.std.specs.List.{list_any, list_all}
use Rattle.cov_classes.specs.Cubes.{Set, values, states, rest, class_of, is_least, same_bool}
use Rattle.cov_model.specs.declared.model.CubeList.{CubeList}
use Rattle.cov_space.specs.Sets.{set_at}
use Rattle.cov_space.specs.Operations.{constant_set}
use Rattle.cov_fields.specs.declared.field.Field.{Field}
use Rattle.cov_fields.specs.Sets.{rest_set}

-- whether two sets are equal
abbrev pub equal_sets : List Bool → List Bool → Bool
equal_sets [] [] = true
equal_sets (a ∷ as') (b ∷ bs) = same_bool a b && equal_sets as' bs
equal_sets _ _ = false

-- the rest set of each value, and the empty set behind them
abbrev pub rests : ℕ → Field → List Bool → ℕ → List (List Bool)
rests levels f set size = map (λ v. rest_set levels f v set) (values size) ++ constant_set levels false ∷ []

-- whether the sets at two places from a first one on are equal
abbrev pub alike : List (List Bool) → ℕ → ℕ → ℕ → Bool
alike sets base v w = equal_sets (set_at sets (base + v)) (set_at sets (base + w))

-- whether none before is the same
abbrev pub is_new : (ℕ → ℕ → Bool) → ℕ → Bool
is_new same v = not (list_any (λ w. same v w) (values v))

-- those that are the same
abbrev pub class_by : (ℕ → ℕ → Bool) → ℕ → ℕ → List ℕ
class_by same size v = filter (λ w. same v w) (values size)

-- the classes that begin with one of these, without the class of the one that comes behind all
abbrev pub classes_from : (ℕ → ℕ → Bool) → ℕ → List ℕ → List (List ℕ)
classes_from same size vs = flat_map (λ v. if is_new same v && not (same v size) then class_by same size v ∷ [] else []) vs

-- all classes
abbrev pub classes_by : (ℕ → ℕ → Bool) → ℕ → List (List ℕ)
classes_by same size = classes_from same size (values size)

-- no state lies in the set
abbrev pub has_none : List ℕ → Set → Bool
has_none ns set = list_all (λ s. not (set s)) (states ns)

-- the classes of the values of the first variable, without those whose rest set is empty
abbrev pub classes_of : ℕ → List ℕ → Set → List (List ℕ)
classes_of n ns set = flat_map (λ v. if is_least ns set v && not (has_none ns (rest set v)) then class_of n ns set v ∷ [] else []) (values n)

-- the first of the cubes with more of them behind, and whether there are others
abbrev pub added : ℕ → CubeList → List (List (List ℕ)) → CubeList
added limit list more = record { cubes = take limit (list.cubes ++ more); more = list.more || nat_lt limit (length list.cubes + length more) }

-- the cubes behind the classes of the variables before
abbrev pub behind : List (List ℕ) → List (List (List ℕ)) → List (List (List ℕ))
behind front cubes = map (λ c. front ++ c) cubes
