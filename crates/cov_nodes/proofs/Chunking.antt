-- The chunks of a list of values, and what their sets are together.
use Rattle.std.proofs.Common.{◌≡◌, ℕ, zero, suc, ◌<◌, ◌≤◌, ◌+◌, ◌-◌, ◌*◌, ◌/◌, ◌||◌, List, Bool, length, take, drop, sym, ◌∙◌, ap, arith, length-take, length-drop}
use Rattle.std.specs.Prelude.{min}
use Rattle.std.specs.Int.{div_ceil}
use Rattle.std.specs.List.{list_any}
use Rattle.std.proofs.Math.Nat.{mul-le-mul_right}
use Rattle.std.proofs.Math.Seq.{take-add}
use Rattle.std.proofs.lemmas.Grind.{div_ceil_times}
use Rattle.std.proofs.lemmas.Nat.{pow_pos}
use Rattle.std.proofs.lemmas.List.{take_all}
use Rattle.std.proofs.lemmas.List.Folds.{list_any-append}
use Rattle.cov_syntax.specs.declared.tree.Value.{Value}
use Rattle.cov_bits.specs.Layout.{width}
use Rattle.cov_bits.proofs.Widths.{width_least}
use Rattle.cov_fields.specs.Fields.{IsField}
use Rattle.cov_families.specs.Families.{index_of, some_below}
use Rattle.cov_nodes.specs.Standing.{chunk, chunk_size}

-- ---- the size of a chunk

pub some_size : (levels : ℕ) → 0 < chunk_size levels
some_size levels = omega (arith, pow_pos (levels / 3))

-- so many values have an index
pub size_field : (levels n : ℕ) → 0 < n → n ≤ chunk_size levels → IsField levels (index_of n)
size_field levels n some le =
    let narrow : width n ≤ levels / 3 = width_least n (levels / 3) some (omega arith) in
    record { there = omega arith; narrow = width_least n 10 some (omega arith) }

-- ---- the values of a chunk

length-chunk : (size : ℕ) (xs : List Value) (k : ℕ) → length (chunk size xs k) ≡ min size (length xs - k * size)
length-chunk size xs k = length-take size (drop (k * size) xs) ∙ ap (λ n. min size n) (length-drop (k * size) xs)

pub some_in_chunk : (size : ℕ) (xs : List Value) (k : ℕ) → 0 < size → k * size < length xs → 0 < length (chunk size xs k)
some_in_chunk size xs k some lt = omega (arith, length-chunk size xs k)

pub few_in_chunk : (size : ℕ) (xs : List Value) (k : ℕ) → length (chunk size xs k) ≤ size
few_in_chunk size xs k = omega (arith, length-chunk size xs k)

pub chunk_field : (levels : ℕ) (xs : List Value) (k : ℕ) → k * chunk_size levels < length xs → IsField levels (index_of (length (chunk (chunk_size levels) xs k)))
chunk_field levels xs k lt = size_field levels (length (chunk (chunk_size levels) xs k)) (some_in_chunk (chunk_size levels) xs k (some_size levels) lt) (few_in_chunk (chunk_size levels) xs k)

-- ---- all chunks

-- a chunk begins within the list
pub begins_within : (n size k : ℕ) → 0 < size → k < div_ceil n size → k * size < n
begins_within n size k some lt =
    let bound = div_ceil_times n size some in
    let next : suc k * size ≤ div_ceil n size * size = mul-le-mul_right size (omega arith) in
    omega arith

any_below : (size : ℕ) (xs : List Value) (test : Value → Bool) (n : ℕ) → some_below n (λ k. list_any test (chunk size xs k)) ≡ list_any test (take (n * size) xs)
any_below size xs test zero = ap (λ m. list_any test (take m xs)) (let e : 0 ≡ 0 * size = omega arith in e)
any_below size xs test (suc n) =
    let next : n * size + size ≡ suc n * size = omega arith in
    ap (λ b. b || list_any test (chunk size xs n)) (any_below size xs test n)
    ∙ sym (list_any-append test (take (n * size) xs) (chunk size xs n))
    ∙ ap (list_any test) (sym (take-add (n * size) size xs) ∙ ap (λ m. take m xs) next)

-- some value of some chunk is some value of the list
pub any_chunk : (size : ℕ) (xs : List Value) (test : Value → Bool) → 0 < size → some_below (div_ceil (length xs) size) (λ k. list_any test (chunk size xs k)) ≡ list_any test xs
any_chunk size xs test some =
    let bound = div_ceil_times (length xs) size some in
    any_below size xs test (div_ceil (length xs) size) ∙ ap (list_any test) (take_all (div_ceil (length xs) size * size) xs (omega arith))
