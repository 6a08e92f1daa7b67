-- Printed cubes. A cube has a class of values for each variable, given by their places.
use Rattle.std.specs.Prelude.{ℕ, if◌then◌else◌, List, [], ◌∷◌, ◌++◌, length, map, flat_map, zip, slice_index_or, codes}
use Rattle.std.specs.List.{join_with_byte, range_with_len}
use Rattle.std.specs.Str.{bytes_eq}
use Rattle.cov_syntax.specs.declared.tree.Value.{Value}
use Rattle.cov_syntax.specs.Tokens.{Text}
use Rattle.cov_model.specs.declared.model.Var.{Var}
use Rattle.cov_model.specs.declared.model.Model.{Model}
use Rattle.cov_show.specs.Printing.{value_printed}
pub use Rattle.cov_classes.specs.Partition.{are_ascending, is_class, is_cube}

-- ---- cubes of a model

-- the numbers of values of the variables
abbrev pub counts : List Var → List ℕ
counts xs = map (λ (x : Var). length x.values) xs

-- ---- texts

-- a variable as it is printed: its name, and the texts of its values
pub record Shown : Type 0 where
  pub name : Text
  pub values : List Text

-- a value is TRUE, FALSE, a decimal integer, or the symbol
abbrev pub value_text : List Text → Value → Text
value_text names v = (value_printed names v).bytes

-- a variable, with the names of the model
abbrev pub shown : List Text → Var → Shown
shown names x = record { name = slice_index_or names x.name []; values = map (value_text names) x.values }

-- the variables of a model in its order
abbrev pub shown_vars : Model → List Shown
shown_vars m = map (shown m.names) m.vars

-- texts with `,` between each two
abbrev pub comma_joined : List Text → Text
comma_joined ts = join_with_byte 44 ts

-- the text of a class of values: the one value, or all of them in braces
abbrev pub class_text : List Text → List ℕ → Text
class_text texts (i ∷ []) = slice_index_or texts i []
class_text texts class = codes "{" ++ comma_joined (map (λ i. slice_index_or texts i []) class) ++ codes "}"

-- the part of one variable, which is left out where its class is its whole list
abbrev pub part : Shown → List ℕ → List Text
part x class = if bytes_eq class (range_with_len 0 (length x.values)) then [] else (x.name ++ codes "=" ++ class_text x.values class) ∷ []

-- the parts of a cube
abbrev pub parts : List Shown → List (List ℕ) → List Text
parts xs cube = flat_map (λ (p : Shown × List ℕ). part p.0 p.1) (zip xs cube)

-- the parts, or the word for a cube without any
abbrev pub or_all : List Text → Text
or_all [] = codes "all"
or_all (p ∷ ps) = comma_joined (p ∷ ps)

-- a text, or the word in place of an empty one
abbrev pub or_word : Text → Text
or_word [] = codes "all"
or_word (b ∷ bs) = b ∷ bs

-- the text of a cube
abbrev pub cube_text : List Shown → List (List ℕ) → Text
cube_text xs cube = or_all (parts xs cube)
