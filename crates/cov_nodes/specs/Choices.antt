-- Families of sets that tell the choices of an expression.
use Rattle.std.specs.Prelude.{◌≡◌, ℕ, ◌<◌, ◌≤◌, neg_ℤ, ◌&&◌, not, nat_lt, IsTrue, IsFalse, List, [], ◌∷◌, Bool, true, false, length}
use Rattle.std.specs.List.{list_any}
use Rattle.cov_syntax.specs.declared.tree.Value.{Value}
use Rattle.cov_syntax.specs.declared.tree.Value.TheVariants as v
use Rattle.cov_syntax.specs.declared.tree.Op2.{Op2}
use Rattle.cov_syntax.specs.declared.tree.Op2.TheVariants as op2
use Rattle.cov_model.specs.declared.model.Model.{Model}
use Rattle.cov_model.specs.Meaning.{Point}
use Rattle.cov_model.specs.Types.{has_twice}
use Rattle.cov_model.specs.Values.{item, number, operated, same_value, whole}
use Rattle.cov_space.specs.Sets.{SpaceOf, lies}
use Rattle.cov_space.specs.Answers.{PutsSet}
use Rattle.cov_fields.specs.Fields.{IsField, held}
use Rattle.cov_families.specs.Families.{index_of}
use Rattle.cov_nodes.specs.declared.reading.Reading.{Reading}
use Rattle.cov_nodes.specs.Points.{is_point, point_at}

-- the values that something may have at a point
abbrev pub Choice : Type 0
Choice = Point → Value → Bool

-- values for which one set can stand: at least one, at most 1,024, no more than the index has numbers, and none twice
pub record IsChunk (levels : ℕ) (xs : List Value) : Type 0 where
  pub some : 0 < length xs
  pub few : length xs ≤ 1024
  pub fits : IsField levels (index_of (length xs))
  pub once : IsFalse (has_twice xs)

-- TRUE alone: its family is the set of points at which something may be TRUE
abbrev pub ones : List Value
ones = v.Bool true ∷ []

-- the number that a row holds is that of a value with the property
abbrev pub picked : List Value → (Value → Bool) → List Bool → Bool
picked xs test row = let k = held (index_of (length xs)) row in nat_lt k (length xs) && test (item xs k)

-- at each row that names typed states the set tells whether the value of the row's number is a choice there
abbrev pub IsFamily : ℕ → Model → Reading → List Value → Choice → List Bool → Type 0
IsFamily levels m at xs may set = (row : List Bool) → length row ≡ levels → IsTrue (is_point m at row) → lies set row ≡ picked xs (may (point_at m at row)) row

-- such a set is put last
pub record PutsFamily (old new : SpaceOf) (m : Model) (at : Reading) (xs : List Value) (may : Choice) : Type 0 where
  pub set : List Bool
  pub puts : PutsSet old new set
  pub is : IsFamily old.levels m at xs may set

-- whether it may be TRUE
abbrev pub is_true_at : Choice → Point → Bool
is_true_at may p = may p (v.Bool true)

-- one choice, a truth
abbrev pub of_truth : (Point → Bool) → Choice
of_truth test p z = same_value (v.Bool (test p)) z

-- what an operator makes of two values; `in` asks for the same value
abbrev pub result_of : Op2 → Value → Value → Value
result_of op2.Member x y = v.Bool (same_value x y)
result_of op x y = operated whole op x y

-- the values that an operator makes of the choices of its sides, among these
abbrev pub operated_choices : Op2 → List Value → List Value → Choice → Choice → Choice
operated_choices op xs ys f g p z = list_any (λ x. f p x && list_any (λ y. g p y && same_value (result_of op x y) z) ys) xs

-- the negatives of choices
abbrev pub negated_choices : List Value → Choice → Choice
negated_choices xs f p z = list_any (λ x. f p x && same_value (v.Int (neg_ℤ (number x))) z) xs

-- an operator of logic
abbrev pub is_logic : Op2 → Bool
is_logic op2.And = true
is_logic op2.Or = true
is_logic op2.Xor = true
is_logic op2.Implies = true
is_logic op2.Iff = true
is_logic _ = false
