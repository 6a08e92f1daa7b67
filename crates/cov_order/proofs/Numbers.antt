-- Lists of different numbers.
use Rattle.std.proofs.Common.{◌≡◌, ℕ, ◌<◌, ◌≤◌, Bool, true, false, not, ◌||◌, IsTrue, List, [], ◌∷◌, ◌++◌, length, eqb, refl, sym, ap, ◌∙◌, arith}
use Rattle.std.specs.Prelude.{◌==◌}
use Rattle.std.specs.List.{list_any, IsDistinct, AllByRecursion}
use Rattle.std.proofs.lemmas.Map.Steps.{length-le_from_distinct_below}
use Rattle.cov_model.specs.Order.{has}
use Rattle.cov_model.specs.WellFormed.{all_different}
use Rattle.cov_model.proofs.Joined.{and_split, and_join}

pub same_number : (i j : ℕ) → (i == j) ≡ true → i ≡ j
same_number i j h = grind arith

pub same_self : (i : ℕ) → (i == i) ≡ true
same_self i = grind arith

pub same_swapped : (i j : ℕ) → (i == j) ≡ (j == i)
same_swapped i j = grind arith

or_assoc : (a b c : Bool) → (a || (b || c)) ≡ ((a || b) || c)
or_assoc true b c = refl
or_assoc false b c = refl

or_none : (a : Bool) → (a || false) ≡ a
or_none true = refl
or_none false = refl

-- the last number is there, and those before it
pub has-push : (xs : List ℕ) (i j : ℕ) → has (xs ++ i ∷ []) j ≡ (has xs j || (i == j))
has-push [] i j = or_none (i == j)
has-push (x ∷ xs) i j = ap (λ (b : Bool). (x == j) || b) (has-push xs i j) ∙ or_assoc (x == j) (has xs j) (i == j)

pub has-append : (xs ys : List ℕ) (j : ℕ) → has (xs ++ ys) j ≡ (has xs j || has ys j)
has-append [] ys j = refl
has-append (x ∷ xs) ys j = ap (λ (b : Bool). (x == j) || b) (has-append xs ys j) ∙ or_assoc (x == j) (has xs j) (has ys j)

pub neither : (a b : Bool) → (a || b) ≡ false → (a ≡ false) × (b ≡ false)
neither true b h = cc
neither false b h = (refl, h)

not_true : (b : Bool) → b ≡ false → IsTrue (not b)
not_true true h = cc
not_true false h = refl

is_not : (b : Bool) → IsTrue (not b) → b ≡ false
is_not true h = cc
is_not false h = refl

-- one more number, which is not there yet
pub all_different-push : (xs : List ℕ) (i : ℕ) → IsTrue (all_different xs) → has xs i ≡ false → IsTrue (all_different (xs ++ i ∷ []))
all_different-push [] i d h = refl
all_different-push (x ∷ xs) i d h =
    let a = and_split (not (has xs x)) (all_different xs) d in
    let b = neither (x == i) (has xs i) h in
    let absent : has (xs ++ i ∷ []) x ≡ false = has-push xs i x ∙ ap (λ (c : Bool). c || (i == x)) (is_not (has xs x) a.0) ∙ same_swapped i x ∙ b.0 in
    and_join (not (has (xs ++ i ∷ []) x)) (all_different (xs ++ i ∷ [])) (not_true (has (xs ++ i ∷ []) x) absent) (all_different-push xs i a.1 b.1)

apart : (x : ℕ) (xs : List ℕ) → has xs x ≡ false → AllByRecursion (λ y. eqb x y ≡ false) xs
apart x [] h = tt
apart x (y ∷ ys) h = let b = neither (y == x) (has ys x) h in (same_swapped x y ∙ b.0, apart x ys b.1)

distinct : (xs : List ℕ) → IsTrue (all_different xs) → IsDistinct eqb xs
unfolding IsDistinct
distinct [] d = tt
distinct (x ∷ xs) d = let a = and_split (not (has xs x)) (all_different xs) d in (apart x xs (is_not (has xs x) a.0), distinct xs a.1)

pub any_swapped : (q : ℕ) (xs : List ℕ) → list_any (eqb q) xs ≡ has xs q
any_swapped q [] = refl
any_swapped q (x ∷ xs) = ap (λ (b : Bool). b || list_any (eqb q) xs) (same_swapped q x) ∙ ap (λ (b : Bool). (x == q) || b) (any_swapped q xs)

-- different numbers below n are at most n
pub length_of_different : (xs : List ℕ) (n : ℕ) → IsTrue (all_different xs) → ((j : ℕ) → has xs j ≡ true → j < n) → length xs ≤ n
length_of_different xs n d below = length-le_from_distinct_below xs n (distinct xs d) (λ q h. below q (sym (any_swapped q xs) ∙ h))
