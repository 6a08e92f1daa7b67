-- A code is read from the first variable on.
use Rattle.std.proofs.Common.{◌≡◌, ◌≢◌, ◌<◌, ◌≤◌, ◌+◌, ◌*◌, ◌/◌, ◌%◌, ◌^◌, ℕ, zero, suc, List, [], ◌∷◌, ◌++◌, length, get_or, drop, IsTrue, Option, Some, None, refl, sym, ap, subst, ◌∙◌, arith, append_assoc}
use Rattle.std.proofs.lemmas.Nat.{pow_pos, shr_split, mod_below, same_from_place}
use Rattle.std.proofs.lemmas.List.{drop_more, drop_all, append-nil}
use Rattle.cov_bits.specs.Layout.{width, bits, are_places, code, IsDecoded}
use Rattle.cov_bits.proofs.Codes.{places_parts, places_from, code_below}

-- a list behind another, if there is one
abbrev pub behind : List ℕ → Option (List ℕ) → Option (List ℕ)
behind places None = None
behind places (Some s) = Some (places ++ s)

-- what is left to be read, decoded, makes the whole decoded
pub record Decoding (ns : List ℕ) (c i rest below : ℕ) (places : List ℕ) : Type 0 where
  pub left : below ≡ bits (drop i ns)
  pub small : rest < 2 ^ bits (drop i ns)
  pub whole : (o : Option (List ℕ)) → IsDecoded (drop i ns) rest o → IsDecoded ns c (behind places o)

nothing_before : (ns : List ℕ) (c : ℕ) (o : Option (List ℕ)) → IsDecoded ns c o → IsDecoded ns c (behind [] o)
nothing_before ns c None h = h
nothing_before ns c (Some s) h = h

pub decoding_begins : (ns : List ℕ) (c below : ℕ) → below ≡ bits ns → c < 2 ^ bits ns → Decoding ns c 0 c below []
decoding_begins ns c below e h = record { left = e; small = h; whole = nothing_before ns c }

-- a place of the first variable, and the rest decoded
here : (n : ℕ) (ns : List ℕ) (rest q r : ℕ) → q * 2 ^ bits ns + r ≡ rest → r < 2 ^ bits ns → q < n
    → (o : Option (List ℕ)) → IsDecoded ns r o → IsDecoded (n ∷ ns) rest (behind (q ∷ []) o)
here n ns rest q r e h g (Some s) d =
    (places_from n ns q s g d.0, ap (λ (k : ℕ). q * 2 ^ bits ns + k) d.1 ∙ e)
here n ns rest q r e h g None d = none
  where
    none : (t : List ℕ) → IsTrue (are_places (n ∷ ns) t) → code (n ∷ ns) t ≢ rest
    none [] u v = cc
    none (i ∷ t) u v =
        let p = places_parts n ns i t u in
        d t p.1 (same_from_place i (code ns t) q r (2 ^ bits ns) (code_below ns t p.1) h (v ∙ sym e)).1

-- no place of the first variable
pub no_place : (n : ℕ) (ns : List ℕ) (rest q r : ℕ) → q * 2 ^ bits ns + r ≡ rest → r < 2 ^ bits ns → n ≤ q → IsDecoded (n ∷ ns) rest None
no_place n ns rest q r e h g [] u v = cc
no_place n ns rest q r e h g (i ∷ t) u v =
    let p = places_parts n ns i t u in
    let same = same_from_place i (code ns t) q r (2 ^ bits ns) (code_below ns t p.1) h (v ∙ sym e) in
    absurd (omega (arith, same.0, p.0))

one_behind : (places : List ℕ) (q : ℕ) (o : Option (List ℕ)) → behind places (behind (q ∷ []) o) ≡ behind (places ++ q ∷ []) o
one_behind places q None = refl
one_behind places q (Some s) = ap (λ (l : List ℕ). Some l) (sym (append_assoc places (q ∷ []) s))

-- the bits from a variable on
pub bits_left : (ns : List ℕ) (i : ℕ) → i < length ns → bits (drop i ns) ≡ width (get_or ns i 0) + bits (drop (i + 1) ns)
bits_left ns i h = ap (λ (l : List ℕ). bits l) (drop_more ns i 0 h)

pub bits_dropped : (ns : List ℕ) (i : ℕ) → bits (drop i ns) ≤ bits ns
bits_dropped ns zero = omega arith
bits_dropped [] (suc i) = omega arith
bits_dropped (n ∷ ns) (suc i) = omega (arith, bits_dropped ns i)

pub decoding_goes : (ns : List ℕ) (c i rest below : ℕ) (places : List ℕ) → i < length ns → Decoding ns c i rest below places
    → (b q : ℕ) → b ≡ bits (drop (i + 1) ns) → q ≡ rest / 2 ^ b → q < get_or ns i 0
    → Decoding ns c (i + 1) (rest % 2 ^ b) b (places ++ q ∷ [])
decoding_goes ns c i rest below places h d b q eb eq lt = record {
  left = eb;
  small = rw (sym eb) (mod_below rest (2 ^ b) (pow_pos b));
  whole = λ o u.
      let r = rest % 2 ^ b in
      let split : q * 2 ^ bits (drop (i + 1) ns) + r ≡ rest = rw (sym eb, eq) (shr_split rest b) in
      let less : r < 2 ^ bits (drop (i + 1) ns) = rw (sym eb) (mod_below rest (2 ^ b) (pow_pos b)) in
      let nd : drop i ns ≡ get_or ns i 0 ∷ drop (i + 1) ns = drop_more ns i 0 h in
      let now : IsDecoded (drop i ns) rest (behind (q ∷ []) o) = rw nd (here (get_or ns i 0) (drop (i + 1) ns) rest q r split less lt o u) in
      subst (λ (z : Option (List ℕ)). IsDecoded ns c z) (one_behind places q o) (d.whole (behind (q ∷ []) o) now);
}

pub decoding_fails : (ns : List ℕ) (c i rest below : ℕ) (places : List ℕ) → i < length ns → Decoding ns c i rest below places
    → (b q : ℕ) → b ≡ bits (drop (i + 1) ns) → q ≡ rest / 2 ^ b → get_or ns i 0 ≤ q → IsDecoded ns c None
decoding_fails ns c i rest below places h d b q eb eq ge =
    let r = rest % 2 ^ b in
    let split : q * 2 ^ bits (drop (i + 1) ns) + r ≡ rest = rw (sym eb, eq) (shr_split rest b) in
    let less : r < 2 ^ bits (drop (i + 1) ns) = rw (sym eb) (mod_below rest (2 ^ b) (pow_pos b)) in
    let nd : drop i ns ≡ get_or ns i 0 ∷ drop (i + 1) ns = drop_more ns i 0 h in
    d.whole None (rw nd (no_place (get_or ns i 0) (drop (i + 1) ns) rest q r split less ge))

pub decoding_ends : (ns : List ℕ) (c i rest below : ℕ) (places : List ℕ) → length ns ≤ i → Decoding ns c i rest below places → IsDecoded ns c (Some places)
decoding_ends ns c i rest below places h d =
    let nd : drop i ns ≡ [] = drop_all i ns h in
    let small : rest < 2 ^ 0 = rw nd at d.small in
    let zero_left : 0 ≡ rest = omega arith in
    let now : IsDecoded (drop i ns) rest (Some []) = rw nd (refl, zero_left) in
    rw (sym (append-nil places)) (d.whole (Some []) now)
