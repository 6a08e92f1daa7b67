-- Families of sets, made of exact sets.
use Rattle.std.proofs.Common.{◌≡◌, ℕ, IsTrue, IsFalse, ◌&&◌, ◌||◌, if◌then◌else◌, nat_lt, List, Bool, true, false, Option, Some, None, length, refl, ◌∙◌, ap, ap₂}
use Rattle.cov_syntax.specs.declared.tree.Value.{Value}
use Rattle.cov_syntax.specs.declared.tree.Value.TheVariants as v
use Rattle.cov_model.specs.declared.model.Model.{Model}
use Rattle.cov_model.specs.Types.{has_twice}
use Rattle.cov_model.specs.Values.{item, same_value}
use Rattle.cov_bits.proofs.Widths.{place_below}
use Rattle.cov_dd.specs.Need.{values}
use Rattle.cov_space.specs.Sets.{SpaceOf, lies}
use Rattle.cov_space.specs.Answers.{PutsSet}
use Rattle.cov_space.specs.Operations.{union}
use Rattle.cov_space.proofs.Sets.{lies_values}
use Rattle.cov_fields.specs.Fields.{held}
use Rattle.cov_families.specs.Families.{FitsField, choice_set, if_set, index_of, names}
use Rattle.cov_nodes.specs.declared.reading.Reading.{Reading}
use Rattle.cov_nodes.specs.Points.{is_point, point_at}
use Rattle.cov_nodes.specs.Choices.{Choice, IsFamily, PutsFamily, is_true_at, of_truth, ones, picked}
use Rattle.cov_nodes.specs.Numbering.{number_in}
use Rattle.cov_nodes.proofs.Numbers.{names_number, number_found, same_flip}

-- a set that is given by a test is a family where the test tells the choices
pub puts_family : (old new : SpaceOf) (m : Model) (at : Reading) (xs : List Value) (may : Choice) (test : List Bool → Bool) → PutsSet old new (values old.levels test)
    → ((row : List Bool) → length row ≡ old.levels → IsTrue (is_point m at row) → test row ≡ picked xs (may (point_at m at row)) row)
    → PutsFamily old new m at xs may
puts_family old new m at xs may test puts same = record {
  set = values old.levels test;
  puts = puts;
  is = λ row len typed. lies_values old.levels test row len ∙ same row len typed;
}

-- ---- rows by the number that they hold

-- the number of a value fits the index
pub number_fits : (xs : List Value) (x : Value) → FitsField (index_of (length xs)) (number_in xs x)
number_fits xs x = by (number_in xs x) refl
  where
    by : (n : Option ℕ) → number_in xs x ≡ n → FitsField (index_of (length xs)) n
    by None e = tt
    by (Some k) e = place_below (length xs) k (number_found xs x k e).0

-- rows that hold the number of a value hold that of a value that is the same
pub names_picked : (xs : List Value) (x : Value) (row : List Bool) → IsFalse (has_twice xs) → names (number_in xs x) (held (index_of (length xs)) row) ≡ picked xs (λ y. same_value x y) row
names_picked xs x row once =
    let k : ℕ = held (index_of (length xs)) row in
    names_number xs x k once ∙ ap (λ b. nat_lt k (length xs) && b) (same_flip (item xs k) x)

-- ---- families of parts

both_or : (a b c : Bool) → ((a && b) || (a && c)) ≡ (a && (b || c))
both_or true b c = refl
both_or false b c = refl

both_if : (a b c d : Bool) → (if b then a && c else (a && d)) ≡ (a && (if b then c else d))
both_if a true c d = refl
both_if a false c d = refl

-- the choices of both
pub either_family : (old new : SpaceOf) (m : Model) (at : Reading) (xs : List Value) (f g : Choice) (a b : List Bool) → IsFamily old.levels m at xs f a → IsFamily old.levels m at xs g b
    → PutsSet old new (union old.levels a b) → PutsFamily old new m at xs (λ p z. f p z || g p z)
either_family old new m at xs f g a b is_f is_g puts =
    puts_family old new m at xs _ (λ row. lies a row || lies b row) puts (λ row len typed.
    let k : ℕ = held (index_of (length xs)) row in
    ap₂ (λ x y. x || y) (is_f row len typed) (is_g row len typed)
    ∙ both_or (nat_lt k (length xs)) (f (point_at m at row) (item xs k)) (g (point_at m at row) (item xs k)))

-- those of the one where a guard is TRUE, and of the other elsewhere
pub branch_family : (old new : SpaceOf) (m : Model) (at : Reading) (xs : List Value) (h f g : Choice) (guard a b : List Bool) → IsFamily old.levels m at ones h guard
    → IsFamily old.levels m at xs f a → IsFamily old.levels m at xs g b → PutsSet old new (if_set old.levels guard a b)
    → PutsFamily old new m at xs (λ p z. if is_true_at h p then f p z else g p z)
branch_family old new m at xs h f g guard a b is_h is_f is_g puts =
    puts_family old new m at xs _ (λ row. if lies guard row then lies a row else lies b row) puts (λ row len typed.
    let k : ℕ = held (index_of (length xs)) row in
    let p = point_at m at row in
    ap (λ x. if x then lies a row else lies b row) (is_h row len typed)
    ∙ ap₂ (λ x y. if is_true_at h p then x else y) (is_f row len typed) (is_g row len typed)
    ∙ both_if (nat_lt k (length xs)) (is_true_at h p) (f p (item xs k)) (g p (item xs k)))

-- TRUE at the points of a set, and FALSE at the others
pub truth_values_family : (old new : SpaceOf) (m : Model) (at : Reading) (xs : List Value) (f : Choice) (a : List Bool) (inside outside : Option ℕ) → IsFamily old.levels m at ones f a → IsFalse (has_twice xs)
    → inside ≡ number_in xs (v.Bool true) → outside ≡ number_in xs (v.Bool false) → PutsSet old new (choice_set old.levels (index_of (length xs)) inside outside a)
    → PutsFamily old new m at xs (of_truth (is_true_at f))
truth_values_family old new m at xs f a inside outside is_f once is_in is_out puts =
    puts_family old new m at xs _ (λ row. names (if lies a row then inside else outside) (held (index_of (length xs)) row)) puts (λ row len typed.
    ap (λ n. names n (held (index_of (length xs)) row)) (chosen (lies a row) ∙ ap (λ b. number_in xs (v.Bool b)) (is_f row len typed))
    ∙ names_picked xs (v.Bool (is_true_at f (point_at m at row))) row once)
  where
    chosen : (b : Bool) → (if b then inside else outside) ≡ number_in xs (v.Bool b)
    chosen true = is_in
    chosen false = is_out
