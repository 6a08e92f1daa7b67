-- What an operator makes of the choices in chunks.
use Rattle.std.proofs.Common.{◌≡◌, ℕ, ◌+◌, ◌*◌, ◌<◌, List, [], ◌∷◌, Bool, true, false, ◌||◌, ◌&&◌, length, take, refl, sym, ◌∙◌, ap, subst, arith, length-append}
use Rattle.std.specs.List.{list_any}
use Rattle.std.specs.Int.{div_ceil}
use Rattle.std.specs.Prelude.{neg_ℤ}
use Rattle.cov_syntax.specs.declared.tree.Op2.{Op2}
use Rattle.cov_syntax.specs.declared.tree.Value.{Value}
use Rattle.cov_syntax.specs.declared.tree.Value.TheVariants as v
use Rattle.cov_model.specs.declared.model.Model.{Model}
use Rattle.cov_model.specs.Meaning.{Point}
use Rattle.cov_model.specs.Values.{number, same_value}
use Rattle.cov_space.specs.Sets.{SpaceOf, set_at}
use Rattle.cov_space.specs.Steps.{with_more}
use Rattle.cov_nodes.specs.declared.reading.Reading.{Reading}
use Rattle.cov_nodes.specs.Choices.{Choice, IsChunk, IsFamily, result_of, operated_choices, negated_choices}
use Rattle.cov_nodes.specs.Standing.{chunk, chunk_size}
use Rattle.cov_expressions.specs.Parts.{AreFamilies, HasSets, HasSome}
use Rattle.cov_expressions.proofs.Chunked.{IsSize, size_is, chunk_is, chunk_there, any_more, any_both}
use Rattle.cov_expressions.proofs.Gathering.{family_front}

any_none : (f : Value → Bool) (xs : List Value) → list_any (λ x. f x && false) xs ≡ false
any_none f [] = refl
any_none f (x ∷ xs) = ap (λ (b : Bool). (f x && false) || b) (any_none f xs) ∙ none (f x)
  where
    none : (b : Bool) → ((b && false) || false) ≡ false
    none true = refl
    none false = refl

none_taken : (size : ℕ) (xs : List Value) → take (0 * size) xs ≡ []
none_taken size xs = let e : 0 * size ≡ 0 = omega arith in ap (λ n. take n xs) e

-- ---- the chunks on the right

pub row_none : (op : Op2) (size : ℕ) (xs ys : List Value) (f g : Choice) (p : Point) (z : Value) → false ≡ operated_choices op xs (take (0 * size) ys) f g p z
row_none op size xs ys f g p z = sym (ap (λ (zs : List Value). operated_choices op xs zs f g p z) (none_taken size ys) ∙ any_none (f p) xs)

pub row_more : (op : Op2) (size : ℕ) (xs ys : List Value) (k : ℕ) (f g : Choice) (p : Point) (z : Value)
    → (operated_choices op xs (take (k * size) ys) f g p z || operated_choices op xs (chunk size ys k) f g p z) ≡ operated_choices op xs (take ((k + 1) * size) ys) f g p z
row_more op size xs ys k f g p z =
    any_both (f p) (λ x. list_any (λ y. g p y && same_value (result_of op x y) z) (take (k * size) ys)) (λ x. list_any (λ y. g p y && same_value (result_of op x y) z) (chunk size ys k))
    (λ x. list_any (λ y. g p y && same_value (result_of op x y) z) (take ((k + 1) * size) ys)) xs
    (λ x. any_more (λ y. g p y && same_value (result_of op x y) z) size ys k)

-- ---- the chunks on the left

pub rows_none : (op : Op2) (size : ℕ) (xs ys : List Value) (f g : Choice) (p : Point) (z : Value) → false ≡ operated_choices op (take (0 * size) xs) ys f g p z
rows_none op size xs ys f g p z = sym (ap (λ (zs : List Value). operated_choices op zs ys f g p z) (none_taken size xs))

pub rows_more : (op : Op2) (size : ℕ) (xs ys : List Value) (k : ℕ) (f g : Choice) (p : Point) (z : Value)
    → (operated_choices op (take (k * size) xs) ys f g p z || operated_choices op (chunk size xs k) ys f g p z) ≡ operated_choices op (take ((k + 1) * size) xs) ys f g p z
rows_more op size xs ys k f g p z = any_more (λ x. f p x && list_any (λ y. g p y && same_value (result_of op x y) z) ys) size xs k

-- ---- the chunks of one operand

pub negated_none : (size : ℕ) (xs : List Value) (f : Choice) (p : Point) (z : Value) → false ≡ negated_choices (take (0 * size) xs) f p z
negated_none size xs f p z = sym (ap (λ (zs : List Value). negated_choices zs f p z) (none_taken size xs))

pub negated_more : (size : ℕ) (xs : List Value) (k : ℕ) (f : Choice) (p : Point) (z : Value)
    → (negated_choices (take (k * size) xs) f p z || negated_choices (chunk size xs k) f p z) ≡ negated_choices (take ((k + 1) * size) xs) f p z
negated_more size xs k f p z = any_more (λ x. f p x && same_value (v.Int (neg_ℤ (number x))) z) size xs k

-- ---- the set of a chunk

-- the chunk is there
pub chunk_below : (s : SpaceOf) (first size : ℕ) (xs : List Value) (k : ℕ) → HasSets s first size xs → k < div_ceil (length xs) size → k * chunk_size s.levels < length xs
chunk_below s first size xs k h lt =
    let n : IsSize s.levels (chunk_size s.levels) = size_is s.levels in
    chunk_there (length xs) (chunk_size s.levels) k n.some (subst (λ (z : ℕ). k < div_ceil (length xs) z) h.sized lt)

-- its values can be numbered
pub chunk_numbered : (s new : SpaceOf) (first size : ℕ) (xs ys : List Value) (k : ℕ) → HasSets s first size xs → k < div_ceil (length xs) size → ys ≡ chunk size xs k → new.levels ≡ s.levels → IsChunk new.levels ys
chunk_numbered s new first size xs ys k h lt e levels =
    subst (λ (n : ℕ). IsChunk n ys) (sym levels)
    (subst (λ (zs : List Value). IsChunk s.levels zs) (sym (e ∙ ap (λ n. chunk n xs k) h.sized)) (chunk_is s.levels xs k h.once (chunk_below s first size xs k h lt)))

-- its set stands where one more set stands behind
pub chunk_family : (old s : SpaceOf) (m : Model) (at : Reading) (first size : ℕ) (xs ys : List Value) (f : Choice) (k : ℕ) → HasSets old first size xs → k < div_ceil (length xs) size → ys ≡ chunk size xs k
    → AreFamilies old m at first xs f → HasSome old s → IsFamily s.levels m at ys f (set_at s.sets (first + k))
chunk_family old s m at first size xs ys f k h lt e stand some =
    let below = chunk_below old first size xs k h lt in
    subst (λ (zs : List Value). IsFamily s.levels m at zs f (set_at s.sets (first + k))) (sym (e ∙ ap (λ n. chunk n xs k) h.sized))
    (family_front old s m at (chunk (chunk_size old.levels) xs k) f (first + k) (some.set ∷ []) some.is (h.there k below) (stand.is k below))

-- ---- more sets behind

pub sets_more : (old s : SpaceOf) (first size : ℕ) (xs : List Value) (more : List (List Bool)) → s ≡ with_more old more → HasSets old first size xs → HasSets s first size xs
sets_more old s first size xs more is h = subst (λ (z : SpaceOf). HasSets z first size xs) (sym is) (record {
  few = h.few;
  once = h.once;
  sized = h.sized;
  there = λ k lt. let below : first + k < length old.sets = h.there k lt in omega (arith, length-append old.sets more);
})

pub families_more : (old s : SpaceOf) (m : Model) (at : Reading) (first size : ℕ) (xs : List Value) (f : Choice) (more : List (List Bool)) → s ≡ with_more old more → HasSets old first size xs → AreFamilies old m at first xs f → AreFamilies s m at first xs f
families_more old s m at first size xs f more is h a = subst (λ (z : SpaceOf). AreFamilies z m at first xs f) (sym is) (record {
  is = λ k lt. family_front old (with_more old more) m at (chunk (chunk_size old.levels) xs k) f (first + k) more refl (h.there k lt) (a.is k lt);
})
