-- A family over TRUE, at the rows that name typed states.
use Rattle.std.proofs.Common.{◌≡◌, ◌≢◌, ℕ, ◌+◌, Bool, true, false, ◌&&◌, IsTrue, List, [], ◌∷◌, length, refl, sym, ap, ap₂, ◌∙◌, arith, Result, OnOk}
use Rattle.cov_syntax.specs.declared.tree.Expr.{Expr}
use Rattle.cov_syntax.specs.declared.tree.Value.{Value}
use Rattle.cov_syntax.specs.declared.tree.Value.TheVariants as v
use Rattle.cov_model.specs.declared.model.Model.{Model}
use Rattle.cov_model.specs.Meaning.{allows, value}
use Rattle.cov_model.specs.Values.{same_value, truth}
use Rattle.cov_space.specs.declared.fault.SpaceFault.{SpaceFault}
use Rattle.cov_space.specs.declared.layer.Layer.TheVariants.{W}
use Rattle.cov_space.specs.Answers.{PutsSet}
use Rattle.cov_space.specs.Sets.{SpaceOf, lies, set_at}
use Rattle.cov_space.specs.Steps.{with_more}
use Rattle.cov_space.proofs.Calls.{at_behind, on_ok_map}
use Rattle.cov_space.proofs.Sets.{values_same}
use Rattle.cov_fields.proofs.Steps.{puts_last}
use Rattle.cov_nodes.specs.declared.reading.Reading.{Reading}
use Rattle.cov_nodes.specs.Choices.{IsFamily, PutsFamily, ones}
use Rattle.cov_nodes.specs.Points.{has_typed, holds_states, is_point, point_at, state_of}
use Rattle.cov_readings.specs.Single.{HasOneChoice}
use Rattle.cov_conditions.specs.Conditions.{condition_set}
use Rattle.cov_conditions.specs.Fixed.{first_sets, typed_part}
use Rattle.cov_conditions.proofs.Choosing.{is_state_typed, point_parts, states_held}
use Rattle.cov_conditions.proofs.Typing.{narrowed}

truth_same : (x : Value) → same_value x (v.Bool true) ≡ truth x
truth_same (v.Bool true) = refl
truth_same (v.Bool false) = refl
truth_same (v.Int n) = refl
truth_same (v.Sym n) = refl

-- ---- tests that agree at points

pub meets_same : (x y b : Bool) → (IsTrue b → x ≡ y) → (x && b) ≡ (b && y)
meets_same true y true h = h refl
meets_same false y true h = h refl
meets_same true y false h = refl
meets_same false y false h = refl

both_held : (a b c d : Bool) → IsTrue a → IsTrue b → (a && b && c && d) ≡ (c && d)
both_held true true c d h k = refl
both_held true false c d h k = cc
both_held false b c d h k = cc

-- where the states are held on layers of states, the point is one of typed states
pub point_is : (m : Model) (at : Reading) (row : List Bool) → at.present ≢ W → at.next ≢ W → is_point m at row ≡ (has_typed m at.present row && has_typed m at.next row)
point_is m at row p n = both_held (holds_states at.present) (holds_states at.next) (has_typed m at.present row) (has_typed m at.next row) (states_held at.present p) (states_held at.next n)

-- the rows of a family over TRUE
true_rows : (m : Model) (at : Reading) (e : Expr) (levels : ℕ) (set : List Bool) → HasOneChoice m e → at.present ≢ W → at.next ≢ W → IsFamily levels m at ones (allows e) set
    → typed_part levels m at set ≡ condition_set levels m at e
true_rows m at e levels set one p n is = values_same levels _ _ (λ row long.
    ap (λ b. lies set row && b) (sym (point_is m at row p n))
    ∙ meets_same (lies set row) (truth (value e (point_at m at row))) (is_point m at row) (λ here.
    let q = point_parts m at row here in
    is row long here
    ∙ one (state_of m at.present row) (state_of m at.next row) at.flip (is_state_typed m at.present row q.present) (is_state_typed m at.next row q.next) (v.Bool true)
    ∙ truth_same (value e (point_at m at row))))

-- ---- behind the sets of before

-- what is left of the last set at typed states
pub parted : (old s new : SpaceOf) (n : ℕ) (m : Model) (at : Reading) (x : List Bool) → length old.sets ≡ n → s ≡ with_more old (x ∷ []) → new ≡ with_more (first_sets s n) (typed_part s.levels m at (set_at s.sets n) ∷ []) → new ≡ with_more old (typed_part old.levels m at x ∷ [])
parted old s new n m at x count is done =
    let here : length old.sets + 0 ≡ n = omega arith in
    narrowed old s new n x (typed_part s.levels m at (set_at s.sets n)) count is done
    ∙ ap (λ (y : List Bool). with_more old (y ∷ [])) (ap₂ (λ (k : ℕ) (y : List Bool). typed_part k m at y) (ap (λ (z : SpaceOf). z.levels) is) (at_behind old s (x ∷ []) n 0 is here))

pub condition_put : (res : Result Unit SpaceFault) (old s new : SpaceOf) (n : ℕ) (m : Model) (at : Reading) (e : Expr) → length old.sets ≡ n → HasOneChoice m e → at.present ≢ W → at.next ≢ W → PutsFamily old s m at ones (allows e)
    → OnOk res (new ≡ with_more (first_sets s n) (typed_part s.levels m at (set_at s.sets n) ∷ [])) → OnOk res (PutsSet old new (condition_set old.levels m at e))
condition_put res old s new n m at e count one present next p =
    on_ok_map res _ _ (λ is.
    puts_last old new (condition_set old.levels m at e)
    (parted old s new n m at p.set count p.puts.is is ∙ ap (λ (y : List Bool). with_more old (y ∷ [])) (true_rows m at e old.levels p.set one present next p.is)))
