-- The DEFINEs that a DEFINE reads, itself and through others.
use Rattle.std.specs.Prelude.{ℕ, Bool, if◌then◌else◌, IsTrue, List, [], ◌∷◌, ◌++◌, length, nat_lt, slice_get}
use Rattle.std.specs.List.{list_all}
use Rattle.std.specs.Option.{option_map_or}
use Rattle.cov_model.specs.declared.model.Define.{Define}
use Rattle.cov_model.specs.Order.{Reads, reads_of, read_by, has}

-- each number is below n
abbrev pub all_below : ℕ → List ℕ → Bool
all_below n xs = list_all (λ j. nat_lt j n) xs

-- each DEFINE that is read is there
abbrev pub are_there : Reads → Bool
are_there g = list_all (all_below (length g)) g

-- each DEFINE that a body names is there
abbrev pub AreThere : List Define → Type 0
AreThere ds = IsTrue (are_there (reads_of ds))

-- the list with one more number, where it does not have it
abbrev pub with : List ℕ → ℕ → List ℕ
with xs j = if has xs j then xs else xs ++ j ∷ []

-- the list, with those of the second list that it does not have
abbrev pub grown : List ℕ → List ℕ → List ℕ
grown xs [] = xs
grown xs (j ∷ js) = grown (with xs j) js

-- the list, with what its k-th number reads
abbrev pub expanded : Reads → ℕ → List ℕ → List ℕ
expanded g k xs = option_map_or (λ j. grown xs (read_by g j)) (slice_get xs k) xs
