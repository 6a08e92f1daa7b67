-- Some number below the length of a list, and some value of it.
use Rattle.std.proofs.Common.{◌≡◌, ℕ, zero, suc, ◌&&◌, ◌||◌, List, [], ◌∷◌, Bool, true, false, length, refl, ◌∙◌, ap, ap₂}
use Rattle.std.specs.List.{list_any}
use Rattle.cov_syntax.specs.declared.tree.Value.{Value}
use Rattle.cov_model.specs.Values.{item}
use Rattle.cov_families.specs.Families.{some_below}

or_assoc : (a b c : Bool) → ((a || b) || c) ≡ (a || (b || c))
or_assoc true b c = refl
or_assoc false b c = refl

some_front : (n : ℕ) (test : ℕ → Bool) → some_below (suc n) test ≡ (test 0 || some_below n (λ k. test (suc k)))
some_front zero test = by (test 0)
  where
    by : (b : Bool) → (false || b) ≡ (b || false)
    by true = refl
    by false = refl
some_front (suc n) test = ap (λ b. b || test (suc n)) (some_front n test) ∙ or_assoc (test 0) (some_below n (λ k. test (suc k))) (test (suc n))

-- some number below the length is that of a value with the property
pub some_item : (xs : List Value) (test : Value → Bool) → some_below (length xs) (λ i. test (item xs i)) ≡ list_any test xs
some_item [] test = refl
some_item (x ∷ xs) test = some_front (length xs) (λ i. test (item (x ∷ xs) i)) ∙ ap (λ b. test x || b) (some_item xs test)

-- a test of values beside one of the whole
pub any_beside : (b : Bool) (f g : Value → Bool) (xs : List Value) → list_any (λ x. f x && (b && g x)) xs ≡ (b && list_any (λ x. f x && g x) xs)
any_beside true f g xs = refl
any_beside false f g [] = refl
any_beside false f g (x ∷ xs) = ap₂ (λ y z. y || z) (none (f x)) (any_beside false f g xs)
  where
    none : (c : Bool) → (c && false) ≡ false
    none true = refl
    none false = refl

-- tests of values that agree
pub any_same : (xs : List Value) (p q : Value → Bool) → ((x : Value) → p x ≡ q x) → list_any p xs ≡ list_any q xs
any_same [] p q same = refl
any_same (x ∷ xs) p q same = ap₂ (λ y z. y || z) (same x) (any_same xs p q same)
