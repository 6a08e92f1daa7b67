-- The cubes of a set of states, for variables of any number of values. A state gives each variable the place of its value.
use Rattle.std.specs.Prelude.{ℕ, Bool, not, List, [], ◌∷◌, map, filter, flat_map, if◌then◌else◌}
use Rattle.std.specs.List.{list_any, list_all, range_with_len}

-- a set of lists of places, as the test whether a list is in it
abbrev pub Set : Type 0
Set = List ℕ → Bool

-- the places of so many values
abbrev pub values : ℕ → List ℕ
values count = range_with_len 0 count

-- all lists of places, for the number of values of each variable
abbrev pub states : List ℕ → List (List ℕ)
states [] = [] ∷ []
states (n ∷ ns) = flat_map (λ v. map (λ s. v ∷ s) (states ns)) (values n)

-- the rest set of a value of the first variable: the places of the remaining variables that follow it
abbrev pub rest : Set → ℕ → Set
rest set v s = set (v ∷ s)

-- whether both tests agree
abbrev pub same_bool : Bool → Bool → Bool
same_bool a b = if a then b else not b

-- whether two sets have the same states
abbrev pub same_set : List ℕ → Set → Set → Bool
same_set counts a b = list_all (λ s. same_bool (a s) (b s)) (states counts)

-- the values with the rest set of this one, ascending
abbrev pub class_of : ℕ → List ℕ → Set → ℕ → List ℕ
class_of n ns set v = filter (λ w. same_set ns (rest set v) (rest set w)) (values n)

-- whether no lesser value has the rest set of this one
abbrev pub is_least : List ℕ → Set → ℕ → Bool
is_least ns set v = not (list_any (λ w. same_set ns (rest set v) (rest set w)) (values v))

-- The cubes, each with a class of values for every variable. Without variables there is one cube if the set is not
-- empty. Otherwise the values of the first variable with equal rest sets form one class, classes stand in the order of
-- their least values, and each is followed by each cube of its rest set: none, if that is empty.
abbrev pub cubes : List ℕ → Set → List (List (List ℕ))
cubes [] set = if set [] then [] ∷ [] else []
cubes (n ∷ ns) set = flat_map (λ v. if is_least ns set v then map (λ c. class_of n ns set v ∷ c) (cubes ns (rest set v)) else []) (values n)
