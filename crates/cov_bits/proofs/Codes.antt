-- Codes of states.
use Rattle.std.proofs.Common.{◌≡◌, ◌<◌, ◌+◌, ◌*◌, ◌^◌, ℕ, zero, suc, Bool, List, [], ◌∷◌, ◌++◌, length, get_or, take, drop, IsTrue, refl, sym, ap, ◌∙◌, arith, length-drop}
use Rattle.std.specs.Prelude.{nat_lt}
use Rattle.std.proofs.lemmas.Nat.{pow_pos, pow-add, mul-add-lt, same_from_place}
use Rattle.std.proofs.lemmas.Bool.{ltb-true, lt-ltb, and_parts, and_from}
use Rattle.std.proofs.lemmas.List.{drop-drop, drop_at, take_at, take-append-drop}
use Rattle.cov_bits.specs.Layout.{width, bits, first, are_places, code, row, number, part, places}
use Rattle.cov_bits.proofs.Widths.{place_below}
use Rattle.cov_bits.proofs.Rows.{row-append, length-row, number_of, number-append}

-- the place of the first variable, and those of the others
pub places_parts : (n : ℕ) (ns : List ℕ) (i : ℕ) (s : List ℕ) → IsTrue (are_places (n ∷ ns) (i ∷ s)) → (i < n) × IsTrue (are_places ns s)
places_parts n ns i s h = let p = and_parts (nat_lt i n) (are_places ns s) h in (ltb-true i n p.0, p.1)

pub places_from : (n : ℕ) (ns : List ℕ) (i : ℕ) (s : List ℕ) → i < n → IsTrue (are_places ns s) → IsTrue (are_places (n ∷ ns) (i ∷ s))
places_from n ns i s h g = and_from (nat_lt i n) (are_places ns s) (lt-ltb i n h) g

pub places_length : (ns s : List ℕ) → IsTrue (are_places ns s) → length ns ≡ length s
places_length [] [] h = refl
places_length [] (i ∷ s) h = cc
places_length (n ∷ ns) [] h = cc
places_length (n ∷ ns) (i ∷ s) h = ap (λ (k : ℕ). suc k) (places_length ns s (places_parts n ns i s h).1)

pub joined_below : (w b i c : ℕ) → i < 2 ^ w → c < 2 ^ b → i * 2 ^ b + c < 2 ^ (w + b)
joined_below w b i c h g = rw (pow-add 2 w b) (omega (arith, mul-add-lt i (2 ^ b) c (2 ^ w) h g))

pub code_below : (ns s : List ℕ) → IsTrue (are_places ns s) → code ns s < 2 ^ bits ns
code_below [] [] h = pow_pos 0
code_below [] (i ∷ s) h = cc
code_below (n ∷ ns) [] h = cc
code_below (n ∷ ns) (i ∷ s) h =
    let p = places_parts n ns i s h in
    joined_below (width n) (bits ns) i (code ns s) (place_below n i p.0) (code_below ns s p.1)

pub code_one : (ns s t : List ℕ) → IsTrue (are_places ns s) → IsTrue (are_places ns t) → code ns s ≡ code ns t → s ≡ t
code_one [] [] [] h g e = refl
code_one [] [] (j ∷ t) h g e = cc
code_one [] (i ∷ s) t h g e = cc
code_one (n ∷ ns) [] t h g e = cc
code_one (n ∷ ns) (i ∷ s) [] h g e = cc
code_one (n ∷ ns) (i ∷ s) (j ∷ t) h g e =
    let p = places_parts n ns i s h in
    let q = places_parts n ns j t g in
    let same = same_from_place i (code ns s) j (code ns t) (2 ^ bits ns) (code_below ns s p.1) (code_below ns t q.1) e in
    let rest : s ≡ t = code_one ns s t p.1 q.1 same.1 in
    let head : i ≡ j = same.0 in
    cc

-- the row of the code of a first place and others is the row of the first place, and then that of the others
pub row-code : (n : ℕ) (ns : List ℕ) (i : ℕ) (s : List ℕ) → IsTrue (are_places ns s)
    → row (bits (n ∷ ns)) (code (n ∷ ns) (i ∷ s)) ≡ row (width n) i ++ row (bits ns) (code ns s)
row-code n ns i s h = row-append (width n) (bits ns) i (code ns s) (code_below ns s h)

pub place_in_row : (ns s : List ℕ) (x : ℕ) → IsTrue (are_places ns s) → x < length ns
    → part ns x (row (bits ns) (code ns s)) ≡ row (width (get_or ns x 0)) (get_or s x 0)
place_in_row [] s x h g = absurd (omega arith)
place_in_row (n ∷ ns) [] x h g = cc
place_in_row (n ∷ ns) (i ∷ s) zero h g =
    let p = places_parts n ns i s h in
    rw (row-code n ns i s p.1) (take_at (row (width n) i) (row (bits ns) (code ns s)) (width n) (length-row (width n) i))
place_in_row (n ∷ ns) (i ∷ s) (suc x) h g =
    let p = places_parts n ns i s h in
    let rest : drop (width n + first ns x) (row (width n) i ++ row (bits ns) (code ns s)) ≡ drop (first ns x) (row (bits ns) (code ns s)) =
    sym (drop-drop (first ns x) (width n) (row (width n) i ++ row (bits ns) (code ns s)))
    ∙ ap (λ (r : List Bool). drop (first ns x) r) (drop_at (row (width n) i) (row (bits ns) (code ns s)) (width n) (length-row (width n) i)) in
    rw (row-code n ns i s p.1, rest) (place_in_row ns s x p.1 (omega arith))

pub places_named : (ns s : List ℕ) → IsTrue (are_places ns s) → places ns (row (bits ns) (code ns s)) ≡ s
places_named [] [] h = refl
places_named [] (i ∷ s) h = cc
places_named (n ∷ ns) [] h = cc
places_named (n ∷ ns) (i ∷ s) h =
    let p = places_parts n ns i s h in
    let front = row (width n) i in
    let rest = row (bits ns) (code ns s) in
    let head : number (take (width n) (front ++ rest)) ≡ i =
    ap (λ (r : List Bool). number r) (take_at front rest (width n) (length-row (width n) i)) ∙ number_of (width n) i (place_below n i p.0) in
    let tail : places ns (drop (width n) (front ++ rest)) ≡ s =
    ap (λ (r : List Bool). places ns r) (drop_at front rest (width n) (length-row (width n) i)) ∙ places_named ns s p.1 in
    rw (row-code n ns i s p.1) (ap (λ (k : ℕ). k ∷ places ns (drop (width n) (front ++ rest))) head ∙ ap (λ (l : List ℕ). i ∷ l) tail)

pub place_of_row : (ns : List ℕ) (r : List Bool) (x : ℕ) → x < length ns → get_or (places ns r) x 0 ≡ number (part ns x r)
place_of_row [] r x h = absurd (omega arith)
place_of_row (n ∷ ns) r zero h = refl
place_of_row (n ∷ ns) r (suc x) h =
    place_of_row ns (drop (width n) r) x (omega arith)
    ∙ ap (λ (q : List Bool). number (take (width (get_or ns x 0)) q)) (drop-drop (first ns x) (width n) r)

pub code-places : (ns : List ℕ) (r : List Bool) → length r ≡ bits ns → code ns (places ns r) ≡ number r
code-places [] [] h = refl
code-places [] (b ∷ r) h = absurd (omega arith)
code-places (n ∷ ns) r h =
    let front = take (width n) r in
    let rest = drop (width n) r in
    let long : length rest ≡ bits ns = length-drop (width n) r ∙ omega arith in
    ap (λ (k : ℕ). number front * 2 ^ bits ns + k) (code-places ns rest long)
    ∙ ap (λ (k : ℕ). number front * 2 ^ k + number rest) (sym long)
    ∙ sym (number-append front rest)
    ∙ ap (λ (q : List Bool). number q) (take-append-drop (width n) r)
