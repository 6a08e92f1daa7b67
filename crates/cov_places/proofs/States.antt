-- What rows hold on a layer.
use Rattle.std.proofs.Common.{◌≡◌, ◌≢◌, ℕ, zero, suc, ◌<◌, ◌≤◌, ◌+◌, ◌*◌, List, [], ◌∷◌, Bool, false, length, take, drop, get_or, refl, sym, ◌∙◌, ap, ap₂, subst, arith}
use Rattle.std.proofs.Math.Seq.{drop-cons}
use Rattle.std.proofs.lemmas.List.{drop-drop}
use Rattle.cov_dd.specs.Operations.{put}
use Rattle.cov_bits.specs.Layout as layout
use Rattle.cov_bits.specs.Layout.{width, bits, code, number, places}
use Rattle.cov_bits.proofs.Rows.{row-number}
use Rattle.cov_bits.proofs.Codes.{code-places}
use Rattle.cov_space.specs.declared.layer.Layer.{Layer}
use Rattle.cov_space.specs.declared.layer.Layer.TheVariants.{W, V, N}
use Rattle.cov_space.specs.Layers.{place_of}
use Rattle.cov_space.proofs.Rows.{place_lt}
use Rattle.cov_image.specs.Rows as rows
use Rattle.cov_fields.specs.declared.field.Field.{Field}
use Rattle.cov_fields.specs.Fields.{level_of, bits_at, put_bits, written}
use Rattle.cov_fields.proofs.Bits.{other_bits}
use Rattle.cov_places.specs.Places.{places_from, state_on}

-- ---- what is written elsewhere

-- bits at levels that are none of the layer's
places_kept : (layer : Layer) (l : ℕ) (bs r : List Bool) → ((i b : ℕ) → i < length bs → l + 3 * i ≢ 3 * b + place_of layer) → (from : ℕ) (ns : List ℕ)
    → places_from layer from ns (put_bits l bs r) ≡ places_from layer from ns r
places_kept layer l bs r miss from [] = refl
places_kept layer l bs r miss from (n ∷ ns) =
    ap₂ (λ (x : ℕ) (xs : List ℕ). x ∷ xs)
    (ap number (other_bits (3 * (from + 0) + place_of layer) (width n) l bs r (λ i j li lj e. miss i (from + j) li (omega arith))))
    (places_kept layer l bs r miss (from + width n) ns)

pub written_elsewhere : (ns : List ℕ) (layer : Layer) (f : Field) (k : ℕ) (row : List Bool) → place_of f.layer ≢ place_of layer → state_on ns layer (written f k row) ≡ state_on ns layer row
written_elsewhere ns layer f k row ne =
    places_kept layer (level_of f 0) (layout.row f.width k) row (λ i b lt e.
    let p : place_of f.layer < 3 = place_lt f.layer in
    let q : place_of layer < 3 = place_lt layer in
    absurd (omega arith)) 0 ns

pub put_elsewhere : (ns : List ℕ) (layer other : Layer) (b : ℕ) (x : Bool) (row : List Bool) → place_of other ≢ place_of layer → state_on ns layer (put row (3 * b + place_of other) x) ≡ state_on ns layer row
put_elsewhere ns layer other b x row ne =
    places_kept layer (3 * b + place_of other) (x ∷ []) row (λ i c lt e.
    let p : place_of other < 3 = place_lt other in
    let q : place_of layer < 3 = place_lt layer in
    absurd (omega arith)) 0 ns

-- ---- equal bits

bits_same : (l count : ℕ) (r o : List Bool) → ((j : ℕ) → j < count → get_or r (l + 3 * j) false ≡ get_or o (l + 3 * j) false) → bits_at l count r ≡ bits_at l count o
bits_same l zero r o same = refl
bits_same l (suc count) r o same =
    let here : l + 3 * 0 ≡ l = omega arith in
    let up : (j : ℕ) → l + 3 * suc j ≡ (l + 3) + 3 * j = λ j. omega arith in
    ap₂ (λ (x : Bool) (xs : List Bool). x ∷ xs)
    (subst (λ m. get_or r m false ≡ get_or o m false) here (same 0 (omega arith)))
    (bits_same (l + 3) count r o (λ j lt. subst (λ m. get_or r m false ≡ get_or o m false) (up j) (same (suc j) (omega arith))))

-- rows with the same bits from a first one of the layer on
places_same : (layer : Layer) (r o : List Bool) (from : ℕ) (ns : List ℕ) → ((b : ℕ) → b < from + bits ns → get_or r (3 * b + place_of layer) false ≡ get_or o (3 * b + place_of layer) false)
    → places_from layer from ns r ≡ places_from layer from ns o
places_same layer r o from [] same = refl
places_same layer r o from (n ∷ ns) same =
    let level : (j : ℕ) → 3 * (from + j) + place_of layer ≡ 3 * (from + 0) + place_of layer + 3 * j = λ j. omega arith in
    ap₂ (λ (x : ℕ) (xs : List ℕ). x ∷ xs)
    (ap number (bits_same (3 * (from + 0) + place_of layer) (width n) r o (λ j lt. subst (λ m. get_or r m false ≡ get_or o m false) (level j) (same (from + j) (omega arith)))))
    (places_same layer r o (from + width n) ns (λ b lt. same b (omega arith)))

pub same_bits : (ns : List ℕ) (layer : Layer) (row other : List Bool) → ((b : ℕ) → b < bits ns → get_or row (3 * b + place_of layer) false ≡ get_or other (3 * b + place_of layer) false)
    → state_on ns layer row ≡ state_on ns layer other
same_bits ns layer row other same = places_same layer row other 0 ns (λ b lt. same b (omega arith))

-- ---- the row of three states

-- the one of three states that belongs to a layer
abbrev pub of_layer : Layer → List Bool → List Bool → List Bool → List Bool
of_layer W w v n = w
of_layer V w v n = v
of_layer N w v n = n

first_bit : (l : Layer) (x y z : Bool) (w v n : List Bool) → get_or (x ∷ y ∷ z ∷ rows.row w v n) (place_of l) false ≡ get_or (of_layer l (x ∷ w) (y ∷ v) (z ∷ n)) 0 false
first_bit W x y z w v n = refl
first_bit V x y z w v n = refl
first_bit N x y z w v n = refl

later_bit : (l : Layer) (x y z : Bool) (w v n : List Bool) (b : ℕ) → get_or (of_layer l (x ∷ w) (y ∷ v) (z ∷ n)) (suc b) false ≡ get_or (of_layer l w v n) b false
later_bit W x y z w v n b = refl
later_bit V x y z w v n b = refl
later_bit N x y z w v n b = refl

row_bit : (l : Layer) (w v n : List Bool) (b : ℕ) → length v ≡ length w → length n ≡ length w → b < length w → get_or (rows.row w v n) (3 * b + place_of l) false ≡ get_or (of_layer l w v n) b false
row_bit l [] v n b d e lt = absurd (omega arith)
row_bit l (x ∷ w) [] n b d e lt = absurd (omega arith)
row_bit l (x ∷ w) (y ∷ v) [] b d e lt = absurd (omega arith)
row_bit l (x ∷ w) (y ∷ v) (z ∷ n) zero d e lt =
    let here : 3 * zero + place_of l ≡ place_of l = omega arith in
    ap (λ m. get_or (x ∷ y ∷ z ∷ rows.row w v n) m false) here ∙ first_bit l x y z w v n
row_bit l (x ∷ w) (y ∷ v) (z ∷ n) (suc b) d e lt =
    let up : 3 * suc b + place_of l ≡ suc (suc (suc (3 * b + place_of l))) = omega arith in
    ap (λ m. get_or (x ∷ y ∷ z ∷ rows.row w v n) m false) up
    ∙ row_bit l w v n b (omega arith) (omega arith) (omega arith)
    ∙ sym (later_bit l x y z w v n b)

-- bits three levels apart that are those of a list
bits_taken : (l a count : ℕ) (r x : List Bool) → a + count ≤ length x → ((j : ℕ) → j < count → get_or r (l + 3 * j) false ≡ get_or x (a + j) false) → bits_at l count r ≡ take count (drop a x)
bits_taken l a zero r x le at = refl
bits_taken l a (suc count) r x le at =
    let here : l + 3 * 0 ≡ l = omega arith in
    let own : a + 0 ≡ a = omega arith in
    let up : (j : ℕ) → l + 3 * suc j ≡ (l + 3) + 3 * j = λ j. omega arith in
    let next : (j : ℕ) → a + suc j ≡ suc a + j = λ j. omega arith in
    ap₂ (λ (b : Bool) (bs : List Bool). b ∷ bs)
    (ap (λ m. get_or r m false) (sym here) ∙ at 0 (omega arith) ∙ ap (λ m. get_or x m false) own)
    (bits_taken (l + 3) (suc a) count r x (omega arith) (λ j lt. ap (λ m. get_or r m false) (sym (up j)) ∙ at (suc j) (omega arith) ∙ ap (λ m. get_or x m false) (next j)))
    ∙ ap (take (suc count)) (sym (drop-cons x a false (omega arith)))

-- a row whose bits on the layer are those of a list holds there the places that the list names
places_read : (layer : Layer) (r x : List Bool) (from : ℕ) (ns : List ℕ) → from + bits ns ≤ length x → ((b : ℕ) → b < length x → get_or r (3 * b + place_of layer) false ≡ get_or x b false)
    → places_from layer from ns r ≡ places ns (drop from x)
places_read layer r x from [] le at = refl
places_read layer r x from (n ∷ ns) le at =
    let level : (j : ℕ) → 3 * (from + 0) + place_of layer + 3 * j ≡ 3 * (from + j) + place_of layer = λ j. omega arith in
    ap₂ (λ (k : ℕ) (ks : List ℕ). k ∷ ks)
    (ap number (bits_taken (3 * (from + 0) + place_of layer) from (width n) r x (omega arith) (λ j lt. ap (λ m. get_or r m false) (level j) ∙ at (from + j) (omega arith))))
    (places_read layer r x (from + width n) ns (omega arith) at ∙ ap (places ns) (sym (drop-drop (width n) from x)))

pub inverted : (ns : List ℕ) (w v n : List Bool) → length w ≡ bits ns → length v ≡ bits ns → length n ≡ bits ns → state_on ns W (rows.row w v n) ≡ places ns w
inverted ns w v n lw lv ln = places_read W (rows.row w v n) w 0 ns (omega arith) (λ b lt. row_bit W w v n b (omega arith) (omega arith) lt)

pub present : (ns : List ℕ) (w v n : List Bool) → length w ≡ bits ns → length v ≡ bits ns → length n ≡ bits ns → state_on ns V (rows.row w v n) ≡ places ns v
present ns w v n lw lv ln = places_read V (rows.row w v n) v 0 ns (omega arith) (λ b lt. row_bit V w v n b (omega arith) (omega arith) (omega arith))

pub next : (ns : List ℕ) (w v n : List Bool) → length w ≡ bits ns → length v ≡ bits ns → length n ≡ bits ns → state_on ns N (rows.row w v n) ≡ places ns n
next ns w v n lw lv ln = places_read N (rows.row w v n) n 0 ns (omega arith) (λ b lt. row_bit N w v n b (omega arith) (omega arith) (omega arith))

-- ---- one row for each state

-- a row is that of the code of the places that it names
pub coded : (ns : List ℕ) (v : List Bool) → length v ≡ bits ns → layout.row (bits ns) (code ns (places ns v)) ≡ v
coded ns v len = ap₂ layout.row (sym len) (code-places ns v len) ∙ row-number v

pub one : (ns : List ℕ) (v u : List Bool) → length v ≡ bits ns → length u ≡ bits ns → places ns v ≡ places ns u → v ≡ u
one ns v u lv lu e = sym (coded ns v lv) ∙ ap (λ (s : List ℕ). layout.row (bits ns) (code ns s)) e ∙ coded ns u lu
