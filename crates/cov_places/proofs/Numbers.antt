-- The numbers below a bound that a field holds.
use Rattle.std.proofs.Common.{◌≡◌, ◌==◌, ℕ, ◌<◌, ◌+◌, ◌-◌, ◌^◌, ◌++◌, ◌&&◌, ◌||◌, List, [], ◌∷◌, Bool, true, false, length, take, refl, sym, ◌∙◌, ap, ap₂, subst, arith}
use Rattle.std.specs.Prelude.{nat_lt}
use Rattle.cov_dd.specs.Need.{values}
use Rattle.cov_bits.proofs.Rows.{number_below}
use Rattle.cov_space.specs.Sets.{SpaceOf, lies, set_at}
use Rattle.cov_space.specs.Operations.{union, intersection}
use Rattle.cov_space.specs.Answers.{PutsSet}
use Rattle.cov_space.specs.Steps.{with_more}
use Rattle.cov_space.proofs.Sets.{values_same, lies_values}
use Rattle.cov_space.proofs.Calls.{at_behind, push_behind, settled_behind}
use Rattle.cov_image.specs.Stacks.{below}
use Rattle.cov_image.proofs.Stacks.{with_last}
use Rattle.cov_fields.specs.declared.field.Field.{Field}
use Rattle.cov_fields.specs.Fields.{level_of, bits_at, held}
use Rattle.cov_fields.specs.Sets.{number_set}
use Rattle.cov_fields.proofs.Bits.{length-bits_at}
use Rattle.cov_places.specs.Steps.{below_set}

pub held_below : (f : Field) (r : List Bool) → held f r < 2 ^ f.width
held_below f r = subst (λ w. held f r < 2 ^ w) (length-bits_at (level_of f 0) f.width r) (number_below (bits_at (level_of f 0) f.width r))

pub below_test : (h n : ℕ) → h < n → nat_lt h n ≡ true
below_test h n lt = grind arith

pub and_true : (b : Bool) → (b && true) ≡ b
and_true true = refl
and_true false = refl

next_test : (h k : ℕ) → (nat_lt h k || (h == k)) ≡ nat_lt h (k + 1)
next_test h k = grind arith

-- one number more
below_next : (levels : ℕ) (f : Field) (k : ℕ) → union levels (below_set levels f k) (number_set levels f k) ≡ below_set levels f (k + 1)
below_next levels f k =
    values_same levels (λ r. lies (below_set levels f k) r || lies (number_set levels f k) r) (λ r. nat_lt (held f r) (k + 1)) (λ r len.
    ap₂ ◌||◌ (lies_values levels (λ s. nat_lt (held f s) k) r len) (lies_values levels (λ s. held f s == k) r len) ∙ next_test (held f r) k)

-- one turn of the loop over the numbers
pub below_turn : (old s s1 s2 s3 : SpaceOf) (f : Field) (k n : ℕ) → length old.sets ≡ n → s ≡ with_more old (below_set old.levels f k ∷ [])
    → PutsSet s s1 (number_set s.levels f k)
    → PutsSet s1 s2 (union s1.levels (set_at s1.sets n) (set_at s1.sets (n + 1)))
    → s3 ≡ record s2 { sets = take n s2.sets ++ set_at s2.sets (length s2.sets - 1) ∷ [] }
    → s3 ≡ with_more old (below_set old.levels f (k + 1) ∷ [])
below_turn old s s1 s2 s3 f k n count is puts joins settles =
    let x : List Bool = below_set old.levels f k in
    let y : List Bool = number_set old.levels f k in
    let is1 : s1 ≡ with_more old (x ∷ y ∷ []) = push_behind old s s1 (x ∷ []) _ is puts ∙ ap (λ m. with_more old (x ∷ number_set m f k ∷ [])) (ap (λ (z : SpaceOf). z.levels) is) in
    let at_x : set_at s1.sets n ≡ x = at_behind old s1 (x ∷ y ∷ []) n 0 is1 (omega arith) in
    let at_y : set_at s1.sets (n + 1) ≡ y = at_behind old s1 (x ∷ y ∷ []) (n + 1) 1 is1 (omega arith) in
    let joined : union s1.levels (set_at s1.sets n) (set_at s1.sets (n + 1)) ≡ below_set old.levels f (k + 1) =
    ap (λ m. union m (set_at s1.sets n) (set_at s1.sets (n + 1))) (ap (λ (z : SpaceOf). z.levels) is1) ∙ ap₂ (union old.levels) at_x at_y ∙ below_next old.levels f k in
    settled_behind old s2 s3 (x ∷ y ∷ union s1.levels (set_at s1.sets n) (set_at s1.sets (n + 1)) ∷ []) n 2 (push_behind old s1 s2 (x ∷ y ∷ []) _ is1 joins) count refl settles
    ∙ ap (λ (z : List Bool). with_more old (z ∷ [])) joined

-- each number of a field is below the power of two
pub all_below : (s : SpaceOf) (f : Field) (size n : ℕ) → length s.sets ≡ n + 1 → values s.levels (lies (set_at s.sets n)) ≡ set_at s.sets n → size ≡ 2 ^ f.width
    → s ≡ with_more (below s n) (intersection s.levels (set_at s.sets n) (below_set s.levels f size) ∷ [])
all_below s f size n count proper all =
    let x : List Bool = set_at s.sets n in
    let same : intersection s.levels x (below_set s.levels f size) ≡ x =
    values_same s.levels (λ r. lies x r && lies (below_set s.levels f size) r) (lies x) (λ r len.
    ap (λ b. lies x r && b) (lies_values s.levels (λ o. nat_lt (held f o) size) r len ∙ below_test (held f r) size (omega (arith, held_below f r)))
    ∙ and_true (lies x r)) ∙ proper in
    with_last s n count ∙ ap (λ (z : List Bool). with_more (below s n) (z ∷ [])) (sym same)
