-- Sets of the points at which something is TRUE.
use Rattle.std.proofs.Common.{◌≡◌, ℕ, ◌<◌, ◌-◌, ◌++◌, IsTrue, not, if◌then◌else◌, List, [], ◌∷◌, Bool, true, false, length, take, refl, ◌∙◌, ap, ap₂, arith}
use Rattle.cov_syntax.specs.declared.tree.Value.TheVariants as v
use Rattle.cov_syntax.specs.declared.tree.Op2.{Op2}
use Rattle.cov_syntax.specs.declared.tree.Op2.TheVariants as op2
use Rattle.cov_model.specs.declared.model.Model.{Model}
use Rattle.cov_model.specs.Values.{same_truth, same_value}
use Rattle.cov_dd.specs.Need.{values}
use Rattle.cov_space.specs.Sets.{SpaceOf, lies, set_at}
use Rattle.cov_space.specs.Answers.{PutsSet}
use Rattle.cov_space.specs.Operations.{complement}
use Rattle.cov_space.specs.Steps.{with_more}
use Rattle.cov_space.proofs.Sets.{lies_values, values_same}
use Rattle.cov_space.proofs.Calls.{at_behind, at_front, push_behind, settled_behind}
use Rattle.cov_fields.proofs.Steps.{puts_last}
use Rattle.cov_nodes.specs.declared.reading.Reading.{Reading}
use Rattle.cov_nodes.specs.Choices.{Choice, IsFamily, PutsFamily, is_logic, is_true_at, of_truth, ones}
use Rattle.cov_nodes.specs.Steps.{one_of, one_of_set, rest_set}
use Rattle.cov_nodes.proofs.Families.{puts_family}

true_is : (b : Bool) → b ≡ same_value (v.Bool b) (v.Bool true)
true_is true = refl
true_is false = refl

-- ---- operators of logic

-- no operator of logic is left
pub last_logic : (op : Op2) → IsTrue (is_logic op) → (op ≡ op2.And → ⊥) → (op ≡ op2.Or → ⊥) → (op ≡ op2.Xor → ⊥) → (op ≡ op2.Implies → ⊥) → op ≡ op2.Iff
last_logic op2.And h a o x i = absurd (a refl)
last_logic op2.Or h a o x i = absurd (o refl)
last_logic op2.Xor h a o x i = absurd (x refl)
last_logic op2.Implies h a o x i = absurd (i refl)
last_logic op2.Iff h a o x i = refl
last_logic op2.Eq h a o x i = cc
last_logic op2.Ne h a o x i = cc
last_logic op2.Lt h a o x i = cc
last_logic op2.Le h a o x i = cc
last_logic op2.Gt h a o x i = cc
last_logic op2.Ge h a o x i = cc
last_logic op2.Add h a o x i = cc
last_logic op2.Sub h a o x i = cc
last_logic op2.Mul h a o x i = cc
last_logic op2.Div h a o x i = cc
last_logic op2.Mod h a o x i = cc
last_logic op2.Union h a o x i = cc
last_logic op2.Member h a o x i = cc
last_logic op2.Au h a o x i = cc
last_logic op2.Eu h a o x i = cc

pub xor_same : (x y : Bool) → (if x then not y else y) ≡ not (same_truth x y)
xor_same true y = refl
xor_same false true = refl
xor_same false false = refl

pub rest_same : (x y : Bool) → one_of true (not x) y ≡ same_truth x y
rest_same true y = refl
rest_same false y = refl

-- what an operator makes of two sets of points
pub logic_family : (old new : SpaceOf) (m : Model) (at : Reading) (f g : Choice) (a b : List Bool) (made told : Bool → Bool → Bool) → IsFamily old.levels m at ones f a → IsFamily old.levels m at ones g b
    → ((x y : Bool) → made x y ≡ told x y) → PutsSet old new (values old.levels (λ row. made (lies a row) (lies b row))) → PutsFamily old new m at ones (of_truth (λ p. told (is_true_at f p) (is_true_at g p)))
logic_family old new m at f g a b made told is_f is_g same puts =
    puts_family old new m at ones _ (λ row. made (lies a row) (lies b row)) puts (λ row len typed.
    ap₂ made (is_f row len typed) (is_g row len typed) ∙ same _ _ ∙ true_is _)

pub not_family : (old new : SpaceOf) (m : Model) (at : Reading) (f : Choice) (a : List Bool) → IsFamily old.levels m at ones f a → PutsSet old new (complement old.levels a)
    → PutsFamily old new m at ones (of_truth (λ p. not (is_true_at f p)))
not_family old new m at f a is_f puts =
    puts_family old new m at ones _ (λ row. not (lies a row)) puts (λ row len typed. ap not (is_f row len typed) ∙ true_is _)

-- the steps by which the rest of the first set is put first
pub rest_puts : (old s1 s2 s3 : SpaceOf) (a b n : ℕ) (alone : Bool) → length old.sets ≡ n → b < length old.sets → PutsSet old s1 (complement old.levels (set_at old.sets a))
    → PutsSet s1 s2 (one_of_set s1.levels alone (set_at s1.sets n) (set_at s1.sets b)) → s3 ≡ record s2 { sets = take n s2.sets ++ set_at s2.sets (length s2.sets - 1) ∷ [] }
    → PutsSet old s3 (rest_set old.levels alone (set_at old.sets a) (set_at old.sets b))
rest_puts old s1 s2 s3 a b n alone count lt puts meets settles =
    let x : List Bool = complement old.levels (set_at old.sets a) in
    let y : List Bool = set_at old.sets b in
    let at_x : set_at s1.sets n ≡ x = at_behind old s1 (x ∷ []) n 0 puts.is (omega arith) in
    let at_y : set_at s1.sets b ≡ y = at_front old s1 (x ∷ []) b puts.is lt in
    let made : one_of_set s1.levels alone (set_at s1.sets n) (set_at s1.sets b) ≡ rest_set old.levels alone (set_at old.sets a) y =
    ap (λ k. one_of_set k alone (set_at s1.sets n) (set_at s1.sets b)) (ap (λ (z : SpaceOf). z.levels) puts.is) ∙ ap₂ (one_of_set old.levels alone) at_x at_y
    ∙ values_same old.levels _ _ (λ row len. ap (λ z. one_of alone z (lies y row)) (lies_values old.levels (λ row. not (lies (set_at old.sets a) row)) row len)) in
    puts_last old s3 _ (settled_behind old s2 s3 (x ∷ one_of_set s1.levels alone (set_at s1.sets n) (set_at s1.sets b) ∷ []) n 1 (push_behind old s1 s2 (x ∷ []) _ puts.is meets) count refl settles
    ∙ ap (λ (z : List Bool). with_more old (z ∷ [])) made)
