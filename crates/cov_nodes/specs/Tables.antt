-- The numbers that the values made of others have among the values asked for.
use Rattle.std.specs.Prelude.{◌≡◌, ℕ, ℤ, pos, ◌<◌, ◌+ℤ◌, ◌&&◌, List, map, length, Option, Some, None}
use Rattle.std.specs.List.{list_any, flat_map}
use Rattle.cov_syntax.specs.declared.tree.Value.{Value}
use Rattle.cov_syntax.specs.declared.tree.Value.TheVariants as v
use Rattle.cov_syntax.specs.declared.tree.Op2.{Op2}
use Rattle.cov_model.specs.Values.{item, same_value}
use Rattle.cov_families.specs.declared.table.Table.{Table}
use Rattle.cov_nodes.specs.Choices.{Choice, result_of}
use Rattle.cov_nodes.specs.Numbering.{number_in}

-- the values are integers in a row, from this one on
abbrev pub IsRow : List Value → ℤ → Type 0
IsRow xs low = (k : ℕ) → k < length xs → item xs k ≡ v.Int (low +ℤ pos k)

-- where the integer is known with which a row begins, the values are that row
abbrev pub MayBeRow : List Value → Option ℤ → Type 0
MayBeRow xs None = Unit {0}
MayBeRow xs (Some low) = IsRow xs low

-- what is made of a value that is left as it is
abbrev pub itself : Value → Value
itself x = x

-- for each value, the number of what is made of it
abbrev pub numbers_of : (Value → Value) → List Value → List Value → List (Option ℕ)
numbers_of made xs results = map (λ x. number_in results (made x)) xs

-- for each value of one list, and for each of another, the number of what an operator makes of the two
abbrev pub numbers_of_pairs : Op2 → List Value → List Value → List Value → List (Option ℕ)
numbers_of_pairs op xs ys results = flat_map (λ x. numbers_of (λ y. result_of op x y) ys results) xs

-- the table of an operator
abbrev pub table_of : Op2 → List Value → List Value → List Value → Table
table_of op xs ys results = record { rows = length xs; columns = length ys; targets = numbers_of_pairs op xs ys results }

-- what is made of the choices among these values
abbrev pub made_choices : (Value → Value) → List Value → Choice → Choice
made_choices made xs f p z = list_any (λ x. f p x && same_value (made x) z) xs
