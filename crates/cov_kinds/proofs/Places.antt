-- Places of values in lists.
use Rattle.std.proofs.Common.{◌≡◌, ℕ, suc, ◌+◌, Bool, not, ◌||◌, nat_lt, cond, List, [], ◌∷◌, length, Some, None, refl, arith}
use Rattle.std.specs.Prelude.{position}
use Rattle.std.specs.Option.{is_some}
use Rattle.std.specs.List.{list_any, prefix_len}

abbrev is_place : ℕ → ℕ → Bool
is_place i n = is_some {T = ℕ} (cond (nat_lt i n) (Some i) None)

one_more : (b : Bool) (i n : ℕ) (r : Bool) → is_place i n ≡ r → is_place (cond (not b) (1 + i) 0) (suc n) ≡ (b || r)
one_more b i n r h = grind arith

-- a list has a first place exactly where some item passes
pub some_place : {A : Type 0} (p : A → Bool) (xs : List A) → is_some (position p xs) ≡ list_any p xs
some_place p [] = refl
some_place p (x ∷ xs) = one_more (p x) (prefix_len (λ y. not (p y)) xs) (length xs) (list_any p xs) (some_place p xs)
