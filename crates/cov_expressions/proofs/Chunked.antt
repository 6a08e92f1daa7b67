-- The chunks of a list.
use Rattle.std.proofs.Common.{◌≡◌, ℕ, zero, suc, ◌+◌, ◌-◌, ◌*◌, ◌/◌, ◌^◌, ◌<◌, ◌≤◌, min, List, [], ◌∷◌, ◌++◌, Bool, false, ◌||◌, ◌&&◌, IsFalse, length, take, drop, refl, sym, ◌∙◌, ap, arith, length-drop}
use Rattle.std.specs.List.{list_any}
use Rattle.std.specs.Int.{div_ceil}
use Rattle.std.proofs.lemmas.List.{length-take, take_all}
use Rattle.std.proofs.lemmas.List.Folds.{list_any-append}
use Rattle.std.proofs.lemmas.Grind.{div_ceil_times}
use Rattle.std.proofs.Math.Seq.{take-add}
use Rattle.cov_syntax.specs.declared.tree.Value.{Value}
use Rattle.cov_model.specs.Kinds.{member}
use Rattle.cov_model.specs.Types.{has_twice}
use Rattle.cov_model.specs.Values.{same_value}
use Rattle.cov_bits.specs.Layout.{width}
use Rattle.cov_bits.proofs.Widths.{width_least}
use Rattle.cov_nodes.specs.Choices.{IsChunk}
use Rattle.cov_nodes.specs.Standing.{chunk, chunk_size}

or_false : (a b : Bool) → IsFalse (a || b) → IsFalse a × IsFalse b
or_false false b h = (refl, h)
or_false _ b h = cc

both_false : (a b : Bool) → IsFalse a → IsFalse b → IsFalse (a || b)
both_false a b p q = ap (λ c. c || b) p ∙ q

back_once : (n : ℕ) (xs : List Value) → IsFalse (has_twice xs) → IsFalse (has_twice (drop n xs))
back_once zero xs h = h
back_once (suc n) [] h = refl
back_once (suc n) (x ∷ xs) h = back_once n xs (or_false (member xs x) (has_twice xs) h).1

front_apart : (n : ℕ) (xs : List Value) (x : Value) → IsFalse (member xs x) → IsFalse (member (take n xs) x)
front_apart zero xs x h = refl
front_apart (suc n) [] x h = refl
front_apart (suc n) (y ∷ xs) x h =
    let k = or_false (same_value y x) (member xs x) h in
    both_false (same_value y x) (member (take n xs) x) k.0 (front_apart n xs x k.1)

front_once : (n : ℕ) (xs : List Value) → IsFalse (has_twice xs) → IsFalse (has_twice (take n xs))
front_once zero xs h = refl
front_once (suc n) [] h = refl
front_once (suc n) (x ∷ xs) h =
    let k = or_false (member xs x) (has_twice xs) h in
    both_false (member (take n xs) x) (has_twice (take n xs)) (front_apart n xs x k.0) (front_once n xs k.1)

-- what is known of the size of a chunk
pub record IsSize (levels size : ℕ) : Type 0 where
  pub some : 0 < size
  pub few : size ≤ 1024
  pub fits : size ≤ 2 ^ (levels / 3)

power_some : (n : ℕ) → 0 < 2 ^ n
power_some zero = omega arith
power_some (suc n) = let h = power_some n in omega arith

pub size_is : (levels : ℕ) → IsSize levels (chunk_size levels)
size_is levels = let h = power_some (levels / 3) in record { some = omega arith; few = omega arith; fits = omega arith }

pub length_chunk : (size : ℕ) (xs : List Value) (k : ℕ) → length (chunk size xs k) ≡ min size (length xs - k * size)
length_chunk size xs k = length-take size (drop (k * size) xs) ∙ ap (min size) (length-drop (k * size) xs)

-- a chunk of a list of values can be numbered
pub chunk_is : (levels : ℕ) (xs : List Value) (k : ℕ) → IsFalse (has_twice xs) → k * chunk_size levels < length xs → IsChunk levels (chunk (chunk_size levels) xs k)
chunk_is levels xs k once lt =
    let size : ℕ = chunk_size levels in
    let s : IsSize levels (chunk_size levels) = size_is levels in
    let n : ℕ = length (chunk (chunk_size levels) xs k) in
    let long : length (chunk (chunk_size levels) xs k) ≡ min (chunk_size levels) (length xs - k * chunk_size levels) = length_chunk (chunk_size levels) xs k in
    field levels (chunk (chunk_size levels) xs k) (chunk_size levels) s (omega arith) (omega arith) (front_once (chunk_size levels) (drop (k * chunk_size levels) xs) (back_once (k * chunk_size levels) xs once))
  where
    field : (levels : ℕ) (ys : List Value) (size : ℕ) → IsSize levels size → 0 < length ys → length ys ≤ size → IsFalse (has_twice ys) → IsChunk levels ys
    field levels ys size s some le once =
        let low : width (length ys) ≤ levels / 3 = width_least (length ys) (levels / 3) some (omega (arith, s.fits)) in
        let ten : width (length ys) ≤ 10 = width_least (length ys) 10 some (omega (arith, s.few)) in
        record {
          some = some;
          few = omega (arith, s.few);
          fits = record { there = omega arith; narrow = ten };
          once = once;
        }

pub chunk_short : (size : ℕ) (xs : List Value) (k : ℕ) → length (chunk size xs k) ≤ length xs
chunk_short size xs k = omega (arith, length_chunk size xs k)

-- the first chunks and one more
pub front_more : (size : ℕ) (xs : List Value) (k : ℕ) → take ((k + 1) * size) xs ≡ take (k * size) xs ++ chunk size xs k
front_more size xs k = let e : (k + 1) * size ≡ k * size + size = omega arith in ap (λ n. take n xs) e ∙ take-add (k * size) size xs

-- all chunks are the list
pub front_all : (size : ℕ) (xs : List Value) (k : ℕ) → 0 < size → div_ceil (length xs) size ≤ k → take (k * size) xs ≡ xs
front_all size xs k some le = take_all (k * size) xs (whole (length xs) size k some le)
  where
    whole : (n size k : ℕ) → 0 < size → div_ceil n size ≤ k → n ≤ k * size
    whole n size k some le = let h = (div_ceil_times n size some).0 in grind arith

-- each chunk has a value
pub chunk_there : (n size k : ℕ) → 0 < size → k < div_ceil n size → k * size < n
chunk_there n size k some lt = let h = (div_ceil_times n size some).1 in grind arith

-- some of the first chunks, or some of one more
pub any_more : (test : Value → Bool) (size : ℕ) (xs : List Value) (k : ℕ) → (list_any test (take (k * size) xs) || list_any test (chunk size xs k)) ≡ list_any test (take ((k + 1) * size) xs)
any_more test size xs k = sym (ap (list_any test) (front_more size xs k) ∙ list_any-append test (take (k * size) xs) (chunk size xs k))

-- in some place the test beside some of the first chunks, or of one more
pub any_both : (f : Value → Bool) (p q r : Value → Bool) (xs : List Value) → ((x : Value) → (p x || q x) ≡ r x) → (list_any (λ x. f x && p x) xs || list_any (λ x. f x && q x) xs) ≡ list_any (λ x. f x && r x) xs
any_both f p q r [] h = refl
any_both f p q r (x ∷ xs) h =
    swap (f x) (p x) (q x) (list_any (λ x. f x && p x) xs) (list_any (λ x. f x && q x) xs)
    ∙ ap (λ (b : Bool). (f x && b) || (list_any (λ x. f x && p x) xs || list_any (λ x. f x && q x) xs)) (h x)
    ∙ ap (λ (b : Bool). (f x && r x) || b) (any_both f p q r xs h)
  where
    swap : (a b c d e : Bool) → (((a && b) || d) || ((a && c) || e)) ≡ ((a && (b || c)) || (d || e))
    swap a b c d e = grind arith
