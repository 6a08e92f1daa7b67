-- The steps by which the sets of a field are made.
use Rattle.std.proofs.Common.{◌≡◌, ◌≢◌, ◌⊎◌, inl, inr, ◌==◌, ◌↔◌, IsTrue, ℕ, suc, ◌<◌, ◌≤◌, ◌+◌, ◌*◌, ◌-◌, ◌/◌, ◌%◌, ◌^◌, ◌&&◌, not, if◌then◌else◌, List, [], ◌∷◌, ◌++◌, Bool, true, false, length, take, get_or, refl, sym, ◌∙◌, ap, ap₂, arith, length-append}
use Rattle.std.proofs.lemmas.Bool.{cases_eq}
use Rattle.cov_dd.specs.Need.{values}
use Rattle.cov_dd.specs.Operations.{put}
use Rattle.cov_bits.specs.Layout as layout
use Rattle.cov_bits.proofs.Rows.{row-number, number_of}
use Rattle.cov_space.specs.Sets.{SpaceOf, SameSets, lies, set_at}
use Rattle.cov_space.specs.Operations.{constant_set, bit_set, intersection, restriction}
use Rattle.cov_space.specs.Answers.{PutsSet}
use Rattle.cov_space.specs.Steps.{with_more}
use Rattle.cov_space.proofs.Sets.{values_same, lies_values}
use Rattle.cov_space.proofs.Rows.{length-put_below, place_lt}
use Rattle.cov_space.proofs.Members.{lies-constant_set, lies-bit_set, lies-complement}
use Rattle.cov_space.proofs.Calls.{at_front, at_behind, push_behind, settled_behind}
use Rattle.cov_fields.specs.declared.field.Field.{Field}
use Rattle.cov_fields.specs.Fields.{level_of, bits_at, put_bits, held, IsField}
use Rattle.cov_fields.specs.Sets.{number_set, rest_set, IsEmpty}
use Rattle.cov_fields.specs.Steps.{rows_with_bit, same_bits, number_from, rest_from}
use Rattle.cov_fields.proofs.Bits.{put_below, length-bits_at}

-- ---- calls

-- one set more, put last
pub puts_last : (old new : SpaceOf) (set : List Bool) → new ≡ with_more old (set ∷ []) → PutsSet old new set
puts_last old new set is = record {
  is = is;
  count = ap (λ (x : SpaceOf). length x.sets) is ∙ length-append old.sets (set ∷ []);
}

pub count_last : (old s : SpaceOf) (n : ℕ) (x : List Bool) → length old.sets ≡ n → s ≡ with_more old (x ∷ []) → length s.sets ≡ n + 1
count_last old s n x count is = let e : length s.sets ≡ length (old.sets ++ x ∷ []) = ap (λ (z : SpaceOf). length z.sets) is in omega (arith, length-append old.sets (x ∷ []))

-- ---- bits

lies-rows_with_bit : (levels level : ℕ) (bit : Bool) (r : List Bool) → length r ≡ levels → lies (rows_with_bit levels level bit) r ≡ (if bit then get_or r level false else not (get_or r level false))
lies-rows_with_bit levels level true r len = lies-bit_set levels level r len
lies-rows_with_bit levels level false r len = lies-complement levels (bit_set levels level) r len ∙ ap not (lies-bit_set levels level r len)

same_refl : (xs : List Bool) → same_bits xs xs ≡ true
same_refl [] = refl
same_refl (true ∷ xs) = same_refl xs
same_refl (false ∷ xs) = same_refl xs

same_true : (xs ys : List Bool) → same_bits xs ys ≡ true → xs ≡ ys
same_true [] [] h = refl
same_true [] (y ∷ ys) h = cc
same_true (x ∷ xs) [] h = cc
same_true (true ∷ xs) (true ∷ ys) h = ap (λ (z : List Bool). true ∷ z) (same_true xs ys h)
same_true (true ∷ xs) (false ∷ ys) h = cc
same_true (false ∷ xs) (true ∷ ys) h = cc
same_true (false ∷ xs) (false ∷ ys) h = ap (λ (z : List Bool). false ∷ z) (same_true xs ys h)

-- bits are those of a number where they are that number
number_test : (w k : ℕ) (xs : List Bool) → length xs ≡ w → k < 2 ^ w → same_bits xs (layout.row w k) ≡ (layout.number xs == k)
number_test w k xs len lt = by (cases_eq (layout.number xs) k)
  where
    equal : (b c : Bool) → (b ≡ true → c ≡ true) → (c ≡ true → b ≡ true) → b ≡ c
    equal true c f g = sym (f refl)
    equal false true f g = g refl
    equal false false f g = refl

    by : (layout.number xs ≡ k) ⊎ (layout.number xs ≢ k) → same_bits xs (layout.row w k) ≡ (layout.number xs == k)
    by (inl e) =
        let own : layout.row w k ≡ xs = ap₂ layout.row (sym len) (sym e) ∙ row-number xs in
        equal _ _ (λ h. grind arith) (λ h. ap (same_bits xs) own ∙ same_refl xs)
    by (inr ne) =
        equal _ _ (λ h. absurd (ne (ap layout.number (same_true xs (layout.row w k) h) ∙ number_of w k lt))) (λ h. absurd (ne (grind arith)))

-- ---- the steps

-- one bit more of a number
pub number_more : (levels : ℕ) (f : Field) (k w : ℕ) → IsField levels f → w < f.width →
    intersection levels (rows_with_bit levels (level_of f (f.width - 1 - w)) (k / 2 ^ w % 2 == 1)) (number_from levels f k w) ≡ number_from levels f k (w + 1)
number_more levels f k w is lt =
    let bit : Bool = k / 2 ^ w % 2 == 1 in
    let l : ℕ = level_of f (f.width - 1 - w) in
    let up : level_of f (f.width - w) ≡ level_of f (f.width - 1 - w) + 3 = omega arith in
    let down : level_of f (f.width - 1 - w) ≡ level_of f (f.width - (w + 1)) = omega arith in
    let next : suc w ≡ w + 1 = omega arith in
    values_same levels _ (λ r. same_bits (bits_at (level_of f (f.width - (w + 1))) (w + 1) r) (layout.row (w + 1) k)) (λ r len.
    ap (λ b. b && lies (number_from levels f k w) r) (lies-rows_with_bit levels l bit r len)
    ∙ ap (λ b. (if bit then get_or r l false else not (get_or r l false)) && b) (lies_values levels (λ s. same_bits (bits_at (level_of f (f.width - w)) w s) (layout.row w k)) r len)
    ∙ ap (λ m. (if bit then get_or r l false else not (get_or r l false)) && same_bits (bits_at m w r) (layout.row w k)) up
    ∙ ap₂ (λ m n. same_bits (bits_at m n r) (layout.row n k)) down next)

-- all bits of a number
pub number_whole : (levels : ℕ) (f : Field) (k w : ℕ) → w ≡ f.width → k < 2 ^ f.width → number_from levels f k w ≡ number_set levels f k
number_whole levels f k w e lt =
    let none : f.width - w ≡ 0 = omega arith in
    values_same levels _ (λ r. held f r == k) (λ r len.
    ap₂ (λ m n. same_bits (bits_at (level_of f m) n r) (layout.row n k)) none e
    ∙ number_test f.width k (bits_at (level_of f 0) f.width r) (length-bits_at (level_of f 0) f.width r) lt)

-- one bit more is written
pub rest_more : (levels : ℕ) (f : Field) (k w : ℕ) (set : List Bool) → IsField levels f → w < f.width →
    restriction levels (rest_from levels f k w set) (level_of f (f.width - 1 - w)) (k / 2 ^ w % 2 == 1) ≡ rest_from levels f k (w + 1) set
rest_more levels f k w set is lt =
    let bit : Bool = k / 2 ^ w % 2 == 1 in
    let l : ℕ = level_of f (f.width - 1 - w) in
    let bs : List Bool = layout.row w k in
    let up : level_of f (f.width - w) ≡ level_of f (f.width - 1 - w) + 3 = omega arith in
    let down : level_of f (f.width - 1 - w) ≡ level_of f (f.width - (w + 1)) = omega arith in
    let next : suc w ≡ w + 1 = omega arith in
    let within : 3 * (f.first + f.width) ≤ levels = is.there in
    let level : level_of f (f.width - 1 - w) < levels = omega (arith, place_lt f.layer) in
    values_same levels _ (λ r. lies set (put_bits (level_of f (f.width - (w + 1))) (layout.row (w + 1) k) r)) (λ r len.
    lies_values levels (λ s. lies set (put_bits (level_of f (f.width - w)) bs s)) (put r l bit) (length-put_below levels r l bit len level)
    ∙ ap (λ m. lies set (put_bits m bs (put r l bit))) up
    ∙ ap (lies set) (put_below (l + 3) l bs r bit (omega arith))
    ∙ ap₂ (λ m n. lies set (put_bits m (layout.row n k) r)) down next)

-- all bits are written
pub rest_whole : (levels : ℕ) (f : Field) (k w : ℕ) (set : List Bool) → w ≡ f.width → rest_from levels f k w set ≡ rest_set levels f k set
rest_whole levels f k w set e =
    let none : f.width - w ≡ 0 = omega arith in
    ap₂ (λ m n. values levels (λ r. lies set (put_bits (level_of f m) (layout.row n k) r))) none e

-- a set is empty where it is the set of no rows
pub empty_test : (b : Bool) (old s : SpaceOf) (k n : ℕ) → s ≡ with_more old (constant_set old.levels false ∷ []) → length old.sets ≡ n → k < length old.sets
    → IsTrue b ↔ SameSets s.levels (set_at s.sets k) (set_at s.sets n) → IsTrue b ↔ IsEmpty old.levels (set_at old.sets k)
empty_test b old s k n is count lt tests =
    let none : List Bool = constant_set old.levels false in
    let levels : s.levels ≡ old.levels = ap (λ (x : SpaceOf). x.levels) is in
    let front : set_at s.sets k ≡ set_at old.sets k = at_front old s (none ∷ []) k is lt in
    let behind : set_at s.sets n ≡ none = at_behind old s (none ∷ []) n 0 is (omega arith) in (
      λ h r len. ap (λ (x : List Bool). lies x r) (sym front) ∙ tests.0 h r (len ∙ sym levels) ∙ ap (λ (x : List Bool). lies x r) behind ∙ lies-constant_set old.levels false r len,
      λ h. tests.1 (λ r len. ap (λ (x : List Bool). lies x r) front ∙ h r (len ∙ levels) ∙ sym (lies-constant_set old.levels false r (len ∙ levels)) ∙ ap (λ (x : List Bool). lies x r) (sym behind)),
    )

-- one turn of the loop that makes a number's set
pub number_turn : (old s s1 s2 s3 : SpaceOf) (f : Field) (k w n : ℕ) → length old.sets ≡ n → IsField old.levels f → w < f.width
    → s ≡ with_more old (number_from old.levels f k w ∷ [])
    → PutsSet s s1 (rows_with_bit s.levels (level_of f (f.width - 1 - w)) (k / 2 ^ w % 2 == 1))
    → PutsSet s1 s2 (intersection s1.levels (set_at s1.sets (n + 1)) (set_at s1.sets n))
    → s3 ≡ record s2 { sets = take n s2.sets ++ set_at s2.sets (length s2.sets - 1) ∷ [] }
    → s3 ≡ with_more old (number_from old.levels f k (w + 1) ∷ [])
number_turn old s s1 s2 s3 f k w n count is lt at puts meets settles =
    let x : List Bool = number_from old.levels f k w in
    let l : ℕ = level_of f (f.width - 1 - w) in
    let bit : Bool = k / 2 ^ w % 2 == 1 in
    let y : List Bool = rows_with_bit old.levels l bit in
    let levels : s.levels ≡ old.levels = ap (λ (z : SpaceOf). z.levels) at in
    let is1 : s1 ≡ with_more old (x ∷ y ∷ []) = push_behind old s s1 (x ∷ []) _ at puts ∙ ap (λ m. with_more old (x ∷ rows_with_bit m l bit ∷ [])) levels in
    let at_x : set_at s1.sets n ≡ x = at_behind old s1 (x ∷ y ∷ []) n 0 is1 (omega arith) in
    let at_y : set_at s1.sets (n + 1) ≡ y = at_behind old s1 (x ∷ y ∷ []) (n + 1) 1 is1 (omega arith) in
    let met : intersection s1.levels (set_at s1.sets (n + 1)) (set_at s1.sets n) ≡ number_from old.levels f k (w + 1) =
    ap (λ m. intersection m (set_at s1.sets (n + 1)) (set_at s1.sets n)) (ap (λ (z : SpaceOf). z.levels) is1) ∙ ap₂ (intersection old.levels) at_y at_x ∙ number_more old.levels f k w is lt in
    settled_behind old s2 s3 (x ∷ y ∷ intersection s1.levels (set_at s1.sets (n + 1)) (set_at s1.sets n) ∷ []) n 2 (push_behind old s1 s2 (x ∷ y ∷ []) _ is1 meets) count refl settles
    ∙ ap (λ (z : List Bool). with_more old (z ∷ [])) met

-- one turn of the loop that makes a rest set
pub rest_turn : (old s s1 s2 : SpaceOf) (f : Field) (k w n : ℕ) (set : List Bool) → length old.sets ≡ n → IsField old.levels f → w < f.width
    → s ≡ with_more old (rest_from old.levels f k w set ∷ [])
    → PutsSet s s1 (restriction s.levels (set_at s.sets n) (level_of f (f.width - 1 - w)) (k / 2 ^ w % 2 == 1))
    → s2 ≡ record s1 { sets = take n s1.sets ++ set_at s1.sets (length s1.sets - 1) ∷ [] }
    → s2 ≡ with_more old (rest_from old.levels f k (w + 1) set ∷ [])
rest_turn old s s1 s2 f k w n set count is lt at puts settles =
    let x : List Bool = rest_from old.levels f k w set in
    let l : ℕ = level_of f (f.width - 1 - w) in
    let bit : Bool = k / 2 ^ w % 2 == 1 in
    let at_x : set_at s.sets n ≡ x = at_behind old s (x ∷ []) n 0 at (omega arith) in
    let made : restriction s.levels (set_at s.sets n) l bit ≡ rest_from old.levels f k (w + 1) set =
    ap (λ m. restriction m (set_at s.sets n) l bit) (ap (λ (z : SpaceOf). z.levels) at) ∙ ap (λ (z : List Bool). restriction old.levels z l bit) at_x ∙ rest_more old.levels f k w set is lt in
    settled_behind old s1 s2 (x ∷ restriction s.levels (set_at s.sets n) l bit ∷ []) n 1 (push_behind old s s1 (x ∷ []) _ at puts) count refl settles
    ∙ ap (λ (z : List Bool). with_more old (z ∷ [])) made
