-- What the parts of an expression are made into.
use Rattle.std.specs.Prelude.{◌≡◌, ℕ, ◌+◌, ◌*◌, ◌<◌, ◌≤◌, ◌&&◌, if◌then◌else◌, Bool, true, false, List, [], ◌∷◌, map, length, take, IsFalse, Option, Some, None}
use Rattle.std.specs.List.{list_all, list_any}
use Rattle.cov_syntax.specs.declared.tree.Value.{Value}
use Rattle.cov_syntax.specs.declared.tree.Value.TheVariants as v
use Rattle.cov_syntax.specs.declared.tree.Op2.{Op2}
use Rattle.cov_syntax.specs.declared.tree.Op2.TheVariants as op2
use Rattle.cov_syntax.specs.declared.tree.Branch.{Branch}
use Rattle.cov_syntax.specs.declared.tree.Expr.{Expr}
use Rattle.cov_syntax.specs.declared.tree.Node.TheFolds.{fold-Branch}
use Rattle.cov_model.specs.declared.model.Model.{Model}
use Rattle.cov_model.specs.Kinds.{is_truth}
use Rattle.cov_model.specs.Meaning.{Meaning, of_node, of_branch, of_expr, first_body, allows}
use Rattle.cov_model.specs.Types.{has_twice}
use Rattle.cov_model.specs.Values.{operated, truth, whole}
use Rattle.cov_space.specs.Sets.{SpaceOf, set_at}
use Rattle.cov_space.specs.Steps.{with_more}
use Rattle.cov_nodes.specs.declared.reading.Reading.{Reading}
use Rattle.cov_nodes.specs.Choices.{Choice, IsFamily, is_true_at, of_truth, operated_choices}
use Rattle.cov_nodes.specs.Standing.{chunk, chunk_size}

-- the sets from a place on are those of the chunks of a list
pub record AreFamilies (s : SpaceOf) (m : Model) (at : Reading) (first : ℕ) (xs : List Value) (may : Choice) : Type 0 where
  pub is : (k : ℕ) → k * chunk_size s.levels < length xs → IsFamily s.levels m at (chunk (chunk_size s.levels) xs k) may (set_at s.sets (first + k))

-- a set stands for each chunk of a list of values, none twice, from a place on
pub record HasSets (s : SpaceOf) (first size : ℕ) (xs : List Value) : Type 0 where
  pub few : length xs ≤ 1024
  pub once : IsFalse (has_twice xs)
  pub sized : size ≡ chunk_size s.levels
  pub there : (k : ℕ) → k * chunk_size s.levels < length xs → first + k < length s.sets

-- the sets of the chunks of a list are put last
pub record PutsAll (old new : SpaceOf) (m : Model) (at : Reading) (xs : List Value) (may : Choice) : Type 0 where
  pub sets : List (List Bool)
  pub is : new ≡ with_more old sets
  pub few : length sets ≤ length xs
  pub there : (k : ℕ) → k * chunk_size old.levels < length xs → k < length sets
  pub families : (k : ℕ) → k * chunk_size old.levels < length xs → IsFamily old.levels m at (chunk (chunk_size old.levels) xs k) may (set_at sets k)

-- the sets of the first chunks of a list are put last
pub record HasFirst (old s : SpaceOf) (m : Model) (at : Reading) (size : ℕ) (xs : List Value) (k : ℕ) (may : Choice) : Type 0 where
  pub sets : List (List Bool)
  pub is : s ≡ with_more old sets
  pub count : length sets ≡ k
  pub total : length s.sets ≡ length old.sets + k
  pub places : s.places ≡ old.places
  pub families : (j : ℕ) → j < k → IsFamily old.levels m at (chunk size xs j) may (set_at sets j)

-- one set is put last, and it is that of these choices
pub record HasOne (old s : SpaceOf) (m : Model) (at : Reading) (xs : List Value) (may : Choice) : Type 0 where
  pub set : List Bool
  pub is : s ≡ with_more old (set ∷ [])
  pub count : length s.sets ≡ length old.sets + 1
  pub places : s.places ≡ old.places
  pub family : IsFamily old.levels m at xs may set

-- one set is put last
pub record HasSome (old s : SpaceOf) : Type 0 where
  pub set : List Bool
  pub is : s ≡ with_more old (set ∷ [])
  pub count : length s.sets ≡ length old.sets + 1
  pub places : s.places ≡ old.places

-- one set is put last, and it is that of these choices, at every reading at which the families of the parts stand
pub record Gathers (old s : SpaceOf) (Stand : Model → Reading → Choice → Choice → Type 0) (xs : List Value) (may : Choice → Choice → Choice) : Type 0 where
  pub some : HasSome old s
  pub families : (m : Model) (at : Reading) (f g : Choice) → Stand m at f g → HasOne old s m at xs (may f g)

-- the Space with its first n sets
abbrev pub cut_to : ℕ → SpaceOf → SpaceOf
cut_to n s = record s { sets = take n s.sets }

-- what a branch means
abbrev pub branch_meaning : Branch → Meaning × Meaning
branch_meaning = fold-Branch Meaning (Meaning × Meaning) Meaning (of_node whole) of_branch of_expr

-- the choices of one of the members
abbrev pub any_choice : List Expr → Choice
any_choice es p x = list_any (λ (e : Expr). allows e p x) es

-- the choices of the first branch whose guard is TRUE
abbrev pub arm_choice : List Branch → Choice
arm_choice bs p x = first_body (λ m. m.allows p x) p false (map branch_meaning bs)

-- the truth that an operator of logic makes of the truths of its sides
abbrev pub logic_choice : Op2 → Choice → Choice → Choice
logic_choice op f g = of_truth (λ p. truth (operated whole op (v.Bool (is_true_at f p)) (v.Bool (is_true_at g p))))

-- the operator makes a number
abbrev pub is_sum : Op2 → Bool
is_sum op2.Add = true
is_sum op2.Sub = true
is_sum op2.Mul = true
is_sum op2.Div = true
is_sum op2.Mod = true
is_sum _ = false

-- an operator that asks for the values of its sides
abbrev pub asks_values : Op2 → Bool
asks_values op2.Eq = true
asks_values op2.Ne = true
asks_values op2.Lt = true
asks_values op2.Le = true
asks_values op2.Gt = true
asks_values op2.Ge = true
asks_values op2.Member = true
asks_values op = is_sum op

-- what an operator makes of the choices of its sides: a number, or else a truth
abbrev pub made_choice : Op2 → List Value → List Value → Choice → Choice → Choice
made_choice op xs ys f g = if is_sum op then operated_choices op xs ys f g else of_truth (is_true_at (operated_choices op xs ys f g))

-- where all values of both sides are truths, `=` and `!=` are these operators of logic
abbrev pub logic_for : Op2 → List Value → List Value → Option Op2
logic_for op2.Eq xs ys = if list_all is_truth xs && list_all is_truth ys then Some op2.Iff else None
logic_for op2.Ne xs ys = if list_all is_truth xs && list_all is_truth ys then Some op2.Xor else None
logic_for _ xs ys = None
