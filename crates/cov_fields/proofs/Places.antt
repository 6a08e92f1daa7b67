-- The fields of the variables, and what they hold.
use Rattle.std.proofs.Common.{◌≡◌, ◌≢◌, ◌⊎◌, inl, inr, ℕ, zero, suc, ◌<◌, ◌≤◌, ◌+◌, ◌*◌, ◌^◌, List, [], ◌∷◌, Bool, length, get_or, IsTrue, sym, ◌∙◌, ap, arith}
use Rattle.std.proofs.lemmas.Bool.{cases_lt}
use Rattle.cov_bits.specs.Layout.{width, bits, first, are_places, code, row, number}
use Rattle.cov_bits.proofs.Widths.{place_below}
use Rattle.cov_bits.proofs.Rows.{length-row, number_of}
use Rattle.cov_bits.proofs.Codes.{places_parts, place_in_row}
use Rattle.cov_space.specs.declared.layer.Layer.{Layer}
use Rattle.cov_space.specs.Layers.{place_of}
use Rattle.cov_space.proofs.Rows.{place_lt}
use Rattle.cov_fields.specs.declared.field.Field.{Field}
use Rattle.cov_fields.specs.Fields.{level_of, field_of, held, written, bits_at, put_bits}
use Rattle.cov_fields.specs.Laws.{AreApart}
use Rattle.cov_fields.proofs.Bits.{put_bits_again, other_bits, bits_written, bits_inside}

-- ---- writing

pub held_written : (f : Field) (k : ℕ) (r : List Bool) → k < 2 ^ f.width → held f (written f k r) ≡ k
held_written f k r lt =
    let l : ℕ = level_of f 0 in
    ap (λ n. number (bits_at l n (put_bits l (row f.width k) r))) (sym (length-row f.width k))
    ∙ ap number (bits_written l (row f.width k) r)
    ∙ number_of f.width k lt

pub written_twice : (f : Field) (j k : ℕ) (r : List Bool) → written f k (written f j r) ≡ written f k r
written_twice f j k r = put_bits_again (level_of f 0) (row f.width j) (row f.width k) r (length-row f.width j ∙ sym (length-row f.width k))

pub held_elsewhere : (f g : Field) (k : ℕ) (r : List Bool) → AreApart f g → held g (written f k r) ≡ held g r
held_elsewhere f g k r apart =
    let long : length (row f.width k) ≡ f.width = length-row f.width k in
    ap number (other_bits (level_of g 0) g.width (level_of f 0) (row f.width k) r (λ i j li lj e. apart i j (omega arith) lj (omega arith)))

-- ---- fields of variables

-- the bits of a variable come before those of a later one
first_before : (ns : List ℕ) (x y : ℕ) → x < y → y ≤ length ns → first ns x + width (get_or ns x 0) ≤ first ns y
first_before [] x y lt le = absurd (omega arith)
first_before (n ∷ ns) x zero lt le = absurd (omega arith)
first_before (n ∷ ns) zero (suc y) lt le = omega arith
first_before (n ∷ ns) (suc x) (suc y) lt le = let h = first_before ns x y (omega arith) (omega arith) in omega arith

pub first_within : (ns : List ℕ) (x : ℕ) → x < length ns → first ns x + width (get_or ns x 0) ≤ bits ns
first_within [] x lt = absurd (omega arith)
first_within (n ∷ ns) zero lt = omega arith
first_within (n ∷ ns) (suc x) lt = let h = first_within ns x (omega arith) in omega arith

levels_apart : (a b : Layer) (i j : ℕ) → i < j → 3 * i + place_of a ≢ 3 * j + place_of b
levels_apart a b i j lt e = let p : place_of a < 3 = place_lt a in absurd (omega arith)

pub variables_apart : (ns : List ℕ) (x y : ℕ) (a b : Layer) → x < length ns → y < length ns → x ≢ y → AreApart (field_of ns x a) (field_of ns y b)
variables_apart ns x y a b lx ly ne i j li lj e = by (cases_lt x y)
  where
    by : (x < y) ⊎ (y ≤ x) → ⊥
    by (inl lt) = let h = first_before ns x y lt (omega arith) in levels_apart a b (first ns x + i) (first ns y + j) (omega arith) e
    by (inr le) = let lt : y < x = omega arith in let h = first_before ns y x lt (omega arith) in levels_apart b a (first ns y + j) (first ns x + i) (omega arith) (sym e)

pub layers_apart : (ns : List ℕ) (x y : ℕ) (a b : Layer) → place_of a ≢ place_of b → AreApart (field_of ns x a) (field_of ns y b)
layers_apart ns x y a b ne i j li lj e =
    let p : place_of a < 3 = place_lt a in
    let q : place_of b < 3 = place_lt b in
    absurd (omega arith)

-- ---- states

place_at : (ns s : List ℕ) (x : ℕ) → IsTrue (are_places ns s) → x < length ns → get_or s x 0 < get_or ns x 0
place_at [] s x h lt = absurd (omega arith)
place_at (n ∷ ns) [] x h lt = cc
place_at (n ∷ ns) (i ∷ s) zero h lt = (places_parts n ns i s h).0
place_at (n ∷ ns) (i ∷ s) (suc x) h lt = place_at ns s x (places_parts n ns i s h).1 (omega arith)

pub place_held : (ns s : List ℕ) (x : ℕ) (layer : Layer) (r : List Bool) → IsTrue (are_places ns s) → x < length ns
    → held (field_of ns x layer) (put_bits (place_of layer) (row (bits ns) (code ns s)) r) ≡ get_or s x 0
place_held ns s x layer r h lt =
    let w : ℕ = width (get_or ns x 0) in
    let bs : List Bool = row (bits ns) (code ns s) in
    let long : length bs ≡ bits ns = length-row (bits ns) (code ns s) in
    let within : first ns x + width (get_or ns x 0) ≤ bits ns = first_within ns x lt in
    let level : 3 * (first ns x + 0) + place_of layer ≡ place_of layer + 3 * first ns x = omega arith in
    ap (λ l. number (bits_at l w (put_bits (place_of layer) bs r))) level
    ∙ ap number (bits_inside (place_of layer) (first ns x) w bs r (omega arith))
    ∙ ap number (place_in_row ns s x h lt)
    ∙ number_of w (get_or s x 0) (place_below (get_or ns x 0) (get_or s x 0) (place_at ns s x h lt))
