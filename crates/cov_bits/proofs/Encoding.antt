-- A code is made from the first variable on.
use Rattle.std.proofs.Common.{◌≡◌, ◌<◌, ◌≤◌, ◌+◌, ◌*◌, ◌^◌, ℕ, zero, suc, List, [], ◌∷◌, ◌++◌, length, get_or, take, drop, IsTrue, ap, ◌∙◌, arith}
use Rattle.std.proofs.lemmas.Nat.{pow_pos, pow-add}
use Rattle.std.proofs.lemmas.List.{drop_more, drop_all, take_more, take_all}
use Rattle.cov_bits.specs.Layout.{width, bits, are_places, code}
use Rattle.cov_bits.proofs.Widths.{place_below}
use Rattle.cov_bits.proofs.Codes.{places_parts, places_length, joined_below}

-- what is found of a code at a variable is completed by what is left to be read
pub record Encoding (ns s : List ℕ) (i acc : ℕ) : Type 0 where
  pub long : length ns ≡ length s
  pub left : IsTrue (are_places (drop i ns) (drop i s))
  pub whole : acc * 2 ^ bits (drop i ns) + code (drop i ns) (drop i s) ≡ code ns s
  pub below : acc < 2 ^ bits (take i ns)

pub encoding_begins : (ns s : List ℕ) → IsTrue (are_places ns s) → Encoding ns s 0 0
encoding_begins ns s h = record { long = places_length ns s h; left = h; whole = omega arith; below = pow_pos 0 }

pub bits-push : (ns : List ℕ) (n : ℕ) → bits (ns ++ n ∷ []) ≡ bits ns + width n
bits-push [] n = omega arith
bits-push (m ∷ ns) n = omega (arith, bits-push ns n)

-- the bits up to a variable
pub bits_more : (ns : List ℕ) (i : ℕ) → i < length ns → bits (take (i + 1) ns) ≡ bits (take i ns) + width (get_or ns i 0)
bits_more ns i h = ap (λ (l : List ℕ). bits l) (take_more ns i 0 h) ∙ bits-push (take i ns) (get_or ns i 0)

pub bits_within : (ns : List ℕ) (i : ℕ) → bits (take i ns) ≤ bits ns
bits_within ns zero = omega arith
bits_within [] (suc i) = omega arith
bits_within (n ∷ ns) (suc i) = omega (arith, bits_within ns i)

shifted : (acc w b p c : ℕ) → (acc * 2 ^ w + p) * 2 ^ b + c ≡ acc * 2 ^ (w + b) + (p * 2 ^ b + c)
shifted acc w b p c = rw (pow-add 2 w b) (omega arith)

pub record Opened (ns s : List ℕ) (i acc : ℕ) : Type 0 where
  pub small : get_or s i 0 < get_or ns i 0
  pub next : Encoding ns s (i + 1) (acc * 2 ^ width (get_or ns i 0) + get_or s i 0)

pub encoding_goes : (ns s : List ℕ) (i acc : ℕ) → i < length ns → Encoding ns s i acc → Opened ns s i acc
encoding_goes ns s i acc h e =
    let w = width (get_or ns i 0) in
    let p = get_or s i 0 in
    let nd : drop i ns ≡ get_or ns i 0 ∷ drop (i + 1) ns = drop_more ns i 0 h in
    let sd : drop i s ≡ p ∷ drop (i + 1) s = drop_more s i 0 (omega (arith, e.long)) in
    let left : IsTrue (are_places (get_or ns i 0 ∷ drop (i + 1) ns) (p ∷ drop (i + 1) s)) = rw (nd, sd) at e.left in
    let whole : acc * 2 ^ (w + bits (drop (i + 1) ns)) + (p * 2 ^ bits (drop (i + 1) ns) + code (drop (i + 1) ns) (drop (i + 1) s)) ≡ code ns s = rw (nd, sd) at e.whole in
    let parts = places_parts (get_or ns i 0) (drop (i + 1) ns) p (drop (i + 1) s) left in
    record {
      small = parts.0;
      next = record {
        long = e.long;
        left = parts.1;
        whole = shifted acc w (bits (drop (i + 1) ns)) p (code (drop (i + 1) ns) (drop (i + 1) s)) ∙ whole;
        below = rw (bits_more ns i h) (joined_below (bits (take i ns)) w acc p e.below (place_below (get_or ns i 0) p parts.0));
      };
    }

pub encoding_ends : (ns s : List ℕ) (i acc : ℕ) → length ns ≤ i → Encoding ns s i acc → (acc ≡ code ns s) × (acc < 2 ^ bits ns)
encoding_ends ns s i acc h e =
    let nd : drop i ns ≡ [] = drop_all i ns h in
    let whole : acc * 2 ^ 0 + 0 ≡ code ns s = rw nd at e.whole in
    let below : acc < 2 ^ bits ns = rw (take_all i ns h) at e.below in
    (omega arith, below)
