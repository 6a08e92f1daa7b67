-- The integers of a range, one after the other.
use Rattle.std.proofs.Common.{◌≡◌, ℕ, suc, ◌+◌, ◌-◌, ◌<◌, min, ◌∷◌, ◌++◌, [], Bool, true, false, cond, List, length, refl, sym, ap, ◌∙◌, arith, append_assoc, length-append}
use Rattle.std.specs.Prelude.{ℤ, pos, negsuc, ◌+ℤ◌, ◌-ℤ◌, ◌≤ℤ◌, ◌<ℤ◌, int_le, nat_abs}
use Rattle.std.proofs.lemmas.Int.{ints}
use Rattle.cov_syntax.specs.declared.tree.Value.{Value}
use Rattle.cov_syntax.specs.declared.tree.Value.TheVariants as v
use Rattle.cov_modules.specs.FlatLists.{range_values}
use Rattle.cov_flat.specs.Entries.{range_from}

left_true : (next high : ℤ) → next ≤ℤ high → int_le next high ≡ true
left_true next high h = grind (arith, ints)

left_false : (next high : ℤ) → high <ℤ next → int_le next high ≡ false
left_false next high h = grind (arith, ints)

-- the values, where there are some
some_left : (next high : ℤ) (room : ℕ) → next ≤ℤ high → range_from next high room ≡ range_values next (min (nat_abs (high -ℤ next) + 1) room)
some_left next high room h = ap (λ b. cond b (range_values next (min (nat_abs (high -ℤ next) + 1) room)) []) (left_true next high h)

-- nothing is left
pub range-done : (next high : ℤ) (room : ℕ) → high <ℤ next → range_from next high room ≡ []
range-done next high room h = ap (λ b. cond b (range_values next (min (nat_abs (high -ℤ next) + 1) room)) []) (left_false next high h)

same_branches : {A : Type 0} (b : Bool) (x : A) → cond b x x ≡ x
same_branches true x = refl
same_branches false x = refl

-- there is no room
pub range-full : (next high : ℤ) → range_from next high 0 ≡ []
range-full next high = let none : min (nat_abs (high -ℤ next) + 1) 0 ≡ 0 = omega arith in ap (λ k. cond (int_le next high) (range_values next k) []) none ∙ same_branches (int_le next high) []

-- how far an integer that is not negative is from 0
abs_is : (z : ℤ) → pos 0 ≤ℤ z → pos (nat_abs z) ≡ z
abs_is (pos n) h = refl
abs_is (negsuc n) h = absurd (omega (arith, ints))

-- the integers behind the next one
behind : (next high : ℤ) (room k : ℕ) → next ≤ℤ high → k ≡ nat_abs (high -ℤ next) → (b : Bool) → int_le (next +ℤ pos 1) high ≡ b → range_values (next +ℤ pos 1) (min k room) ≡ range_from (next +ℤ pos 1) high room
behind next high room k h is true t =
    let below : (next +ℤ pos 1) ≤ℤ high = grind (arith, ints) in
    let near : pos (nat_abs (high -ℤ (next +ℤ pos 1))) ≡ high -ℤ (next +ℤ pos 1) = abs_is (high -ℤ (next +ℤ pos 1)) (omega (arith, ints)) in
    let far : pos (nat_abs (high -ℤ next)) ≡ high -ℤ next = abs_is (high -ℤ next) (omega (arith, ints)) in
    let one : nat_abs (high -ℤ next) ≡ nat_abs (high -ℤ (next +ℤ pos 1)) + 1 = omega (arith, ints) in
    let more : min k room ≡ min (nat_abs (high -ℤ (next +ℤ pos 1)) + 1) room = ap (λ (m : ℕ). min m room) (is ∙ one) in
    ap (range_values (next +ℤ pos 1)) more ∙ sym (ap (λ b. cond b (range_values (next +ℤ pos 1) (min (nat_abs (high -ℤ (next +ℤ pos 1)) + 1) room)) []) t)
behind next high room k h is false t =
    let above : high <ℤ (next +ℤ pos 1) = grind (arith, ints) in
    let far : pos (nat_abs (high -ℤ next)) ≡ high -ℤ next = abs_is (high -ℤ next) (omega (arith, ints)) in
    let zero_is : nat_abs (high -ℤ next) ≡ 0 = omega (arith, ints) in
    let none : min k room ≡ 0 = omega arith in
    ap (range_values (next +ℤ pos 1)) none ∙ sym (ap (λ b. cond b (range_values (next +ℤ pos 1) (min (nat_abs (high -ℤ (next +ℤ pos 1)) + 1) room)) []) t)

-- the next integer, then those behind it
pub range-step : (next high : ℤ) (room : ℕ) → next ≤ℤ high → range_from next high (suc room) ≡ v.Int next ∷ range_from (next +ℤ pos 1) high room
range-step next high room h =
    let k : ℕ = nat_abs (high -ℤ next) in
    let count : min (k + 1) (suc room) ≡ suc (min k room) = omega arith in
    some_left next high (suc room) h ∙ ap (range_values next) count ∙ ap (λ vs. v.Int next ∷ vs) (behind next high room k h refl (int_le (next +ℤ pos 1) high) refl)

-- what is found, with what is left, stays the whole
pub range-kept : (next next' high : ℤ) (values new whole : List Value) → next' ≡ next +ℤ pos 1 → next ≤ℤ high → length values < 1025 → new ≡ values ++ v.Int next ∷ []
    → values ++ range_from next high (1025 - length values) ≡ whole → new ++ range_from next' high (1025 - length new) ≡ whole
range-kept next next' high values new whole after h few put is =
    let size : length new ≡ length values + 1 = ap length put ∙ length-append values (v.Int next ∷ []) in
    let room : 1025 - length values ≡ suc (1025 - length new) = omega arith in
    ap (λ (vs : List Value). vs ++ range_from next' high (1025 - length new)) put
    ∙ append_assoc values (v.Int next ∷ []) (range_from next' high (1025 - length new))
    ∙ ap (λ (z : ℤ). values ++ (v.Int next ∷ range_from z high (1025 - length new))) after
    ∙ ap (λ (vs : List Value). values ++ vs) (sym (range-step next high (1025 - length new) h))
    ∙ ap (λ (m : ℕ). values ++ range_from next high m) (sym room)
    ∙ is
