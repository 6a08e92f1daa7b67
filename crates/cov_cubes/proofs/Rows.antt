-- The rows of states.
use Rattle.std.proofs.Common.{◌≡◌, ℕ, zero, suc, ◌<◌, ◌≤◌, ◌+◌, ◌*◌, List, [], ◌∷◌, ◌++◌, Bool, false, length, get_or, IsTrue, refl, sym, ◌∙◌, ap, ap₂, arith}
use Rattle.cov_bits.specs.Layout.{width, bits, are_places, code, row}
use Rattle.cov_bits.proofs.Rows.{length-row, row-number}
use Rattle.cov_bits.proofs.Codes.{places_parts, row-code}
use Rattle.cov_fields.specs.Fields.{level_of, held, written, bits_at, put_bits}
use Rattle.cov_fields.specs.Laws.{AreApart}
use Rattle.cov_fields.proofs.Bits.{other_bits, bits_written, put_append, length-bits_at, length-put_bits}
use Rattle.cov_fields.proofs.Places.{held_elsewhere}
use Rattle.cov_cubes.specs.States.{present, placed, blank, places_at}

pub length-blank : (n : ℕ) → length (blank n) ≡ n
length-blank zero = refl
length-blank (suc n) = ap suc (length-blank n)

pub length-written : (levels from n v : ℕ) (r : List Bool) → 3 * (from + width n) ≤ levels → length r ≡ levels → length (written (present from n) v r) ≡ levels
length-written levels from n v r le len = length-put_bits levels (level_of (present from n) 0) (row (width n) v) r len (omega (arith, length-row (width n) v))

pub length-placed : (levels from : ℕ) (ns s : List ℕ) (r : List Bool) → 3 * (from + bits ns) ≤ levels → length r ≡ levels → length (placed from ns s r) ≡ levels
length-placed levels from [] s r le len = len
length-placed levels from (n ∷ ns) [] r le len = len
length-placed levels from (n ∷ ns) (v ∷ s) r le len =
    length-written levels from n v (placed (from + width n) ns s r) (omega arith) (length-placed levels (from + width n) ns s r (omega arith) len)

-- what later variables hold
pub places_above : (from n v later : ℕ) (ns : List ℕ) (r : List Bool) → from + width n ≤ later → places_at later ns (written (present from n) v r) ≡ places_at later ns r
places_above from n v later [] r le = refl
places_above from n v later (m ∷ ns) r le =
    let apart : AreApart (present from n) (present later m) = λ i j li lj. omega arith in
    ap₂ (λ (x : ℕ) (xs : List ℕ). x ∷ xs) (held_elsewhere (present from n) (present later m) v r apart) (places_above from n v (later + width m) ns r (omega arith))

-- ---- bits of rows

bits_append : (l a b : ℕ) (r : List Bool) → bits_at l (a + b) r ≡ bits_at l a r ++ bits_at (l + 3 * a) b r
bits_append l zero b r = let e : zero + b ≡ b = omega arith in let f : l ≡ l + 3 * zero = omega arith in ap₂ (λ n m. bits_at m n r) e f
bits_append l (suc a) b r =
    let e : suc a + b ≡ suc (a + b) = omega arith in
    let f : (l + 3) + 3 * a ≡ l + 3 * suc a = omega arith in
    ap (λ n. bits_at l n r) e ∙ ap (λ (xs : List Bool). get_or r l false ∷ xs) (bits_append (l + 3) a b r ∙ ap (λ m. bits_at (l + 3) a r ++ bits_at m b r) f)

pub get_or-bits_at : (l count b : ℕ) (r : List Bool) → b < count → get_or (bits_at l count r) b false ≡ get_or r (l + 3 * b) false
get_or-bits_at l zero b r lt = absurd (omega arith)
get_or-bits_at l (suc count) zero r lt = let e : l ≡ l + 3 * zero = omega arith in ap (λ m. get_or r m false) e
get_or-bits_at l (suc count) (suc b) r lt = let e : (l + 3) + 3 * b ≡ l + 3 * suc b = omega arith in get_or-bits_at (l + 3) count b r (omega arith) ∙ ap (λ m. get_or r m false) e

-- a row has at the variables' levels the bits of the places that it holds
pub bits_placed : (from : ℕ) (ns : List ℕ) (r x : List Bool) → bits_at (3 * from + 1) (bits ns) (placed from ns (places_at from ns r) x) ≡ bits_at (3 * from + 1) (bits ns) r
bits_placed from [] r x = refl
bits_placed from (n ∷ ns) r x =
    let l : ℕ = level_of (present from n) 0 in
    let w : ℕ = width n in
    let rest : List Bool = placed (from + w) ns (places_at (from + w) ns r) x in
    let bs : List Bool = row w (held (present from n) r) in
    let long : length (row (width n) (held (present from n) r)) ≡ width n = length-row (width n) (held (present from n) r) in
    let here : 3 * from + 1 ≡ level_of (present from n) 0 = omega arith in
    let up : 3 * (from + width n) + 1 ≡ 3 * from + 1 + 3 * width n = omega arith in
    let own : bs ≡ bits_at l w r = ap (λ k. row k (held (present from n) r)) (sym (length-bits_at l w r)) ∙ row-number (bits_at l w r) in
    let front : bits_at (3 * from + 1) w (put_bits l bs rest) ≡ bits_at (3 * from + 1) w r =
    ap (λ m. bits_at m w (put_bits l bs rest)) here ∙ ap (λ k. bits_at l k (put_bits l bs rest)) (sym long) ∙ bits_written l bs rest ∙ own ∙ ap (λ m. bits_at m w r) (sym here) in
    let back : bits_at (3 * from + 1 + 3 * w) (bits ns) (put_bits l bs rest) ≡ bits_at (3 * from + 1 + 3 * w) (bits ns) r =
    other_bits (3 * from + 1 + 3 * w) (bits ns) l bs rest (λ i j li lj e. absurd (omega arith))
    ∙ ap (λ m. bits_at m (bits ns) rest) (sym up) ∙ bits_placed (from + w) ns r x ∙ ap (λ m. bits_at m (bits ns) r) up in
    bits_append (3 * from + 1) w (bits ns) (put_bits l bs rest) ∙ ap₂ ◌++◌ front back ∙ sym (bits_append (3 * from + 1) w (bits ns) r)

-- the row of a typed state is that of its code
coded_from : (from : ℕ) (ns s : List ℕ) (r : List Bool) → IsTrue (are_places ns s) → placed from ns s r ≡ put_bits (3 * from + 1) (row (bits ns) (code ns s)) r
coded_from from [] [] r h = refl
coded_from from [] (v ∷ s) r h = cc
coded_from from (n ∷ ns) [] r h = cc
coded_from from (n ∷ ns) (v ∷ s) r h =
    let p = places_parts n ns v s h in
    let l : ℕ = level_of (present from n) 0 in
    let here : level_of (present from n) 0 ≡ 3 * from + 1 = omega arith in
    let up : 3 * (from + width n) + 1 ≡ 3 * from + 1 + 3 * width n = omega arith in
    ap (put_bits l (row (width n) v)) (coded_from (from + width n) ns s r p.1)
    ∙ ap₂ (λ k m. put_bits k (row (width n) v) (put_bits m (row (bits ns) (code ns s)) r)) here (up ∙ ap (λ k. 3 * from + 1 + 3 * k) (sym (length-row (width n) v)))
    ∙ sym (put_append (3 * from + 1) (row (width n) v) (row (bits ns) (code ns s)) r)
    ∙ ap (λ (bs : List Bool). put_bits (3 * from + 1) bs r) (sym (row-code n ns v s p.1))

pub coded : (ns s : List ℕ) (r : List Bool) → IsTrue (are_places ns s) → placed 0 ns s r ≡ put_bits 1 (row (bits ns) (code ns s)) r
coded ns s r h = coded_from 0 ns s r h
