-- Lemmas on tables whose entries are numbered in order.
use Rattle.std.proofs.Common.{◌≡◌, ℕ, zero, suc, ◌+◌, List, [], ◌∷◌, slice_get, IfSome, arith}

-- the numbers of the entries go up one by one from this one
abbrev pub IsNumbered : {X : Type 0} → (X → ℕ) → ℕ → List X → Type 0
IsNumbered number from [] = Unit {0}
IsNumbered number from (x ∷ xs) = (number x ≡ from) × IsNumbered number (from + 1) xs

-- an entry's number is its place, from the first number on
pub number-slice_get : {X : Type 0} (number : X → ℕ) (from : ℕ) (xs : List X) (i n : ℕ) → IsNumbered number from xs → n ≡ from + i → IfSome (slice_get xs i) (λ x. number x ≡ n)
number-slice_get number from [] i n h e = tt
number-slice_get number from (x ∷ xs) zero n h e = omega (arith, h.0)
number-slice_get number from (x ∷ xs) (suc i) n h e = number-slice_get number (from + 1) xs i n h.1 (omega arith)
