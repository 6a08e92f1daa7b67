-- Values that stand twice in a list, as a loop finds them.
use Rattle.std.proofs.Common.{◌≡◌, ℕ, ◌+◌, ◌<◌, Bool, true, false, ◌||◌, List, [], ◌∷◌, ◌++◌, length, take, drop, get_or, refl, sym, ap, subst, ◌∙◌, arith}
use Rattle.std.specs.List.{list_any}
use Rattle.std.specs.Prelude.{◌==◌, ℤ, pos, negsuc}
use Rattle.std.proofs.lemmas.Bool.Decides.{nat_tests}
use Rattle.std.proofs.lemmas.Int.{ints}
use Rattle.std.specs.Ordering.{int_eq}
use Rattle.std.proofs.lemmas.List.{take_more, take-append-drop}
use Rattle.cov_syntax.specs.declared.tree.Value.{Value}
use Rattle.cov_syntax.specs.declared.tree.Value.TheVariants as v
use Rattle.cov_model.specs.Kinds.{member}
use Rattle.cov_model.specs.Types.{has_twice}
use Rattle.cov_model.specs.Values.{same_value, same_truth}

nat_flip : (a b : ℕ) → (a == b) ≡ (b == a)
nat_flip a b = grind (arith, nat_tests)

int_flip : (a b : ℤ) → int_eq a b ≡ int_eq b a
int_flip a b = grind (arith, ints)

pub same_flip : (x y : Value) → same_value x y ≡ same_value y x
same_flip (v.Bool true) (v.Bool true) = refl
same_flip (v.Bool true) (v.Bool false) = refl
same_flip (v.Bool false) (v.Bool true) = refl
same_flip (v.Bool false) (v.Bool false) = refl
same_flip (v.Int a) (v.Int b) = int_flip a b
same_flip (v.Sym a) (v.Sym b) = nat_flip a b
same_flip (v.Bool a) (v.Int b) = refl
same_flip (v.Bool a) (v.Sym b) = refl
same_flip (v.Int a) (v.Bool b) = refl
same_flip (v.Int a) (v.Sym b) = refl
same_flip (v.Sym a) (v.Bool b) = refl
same_flip (v.Sym a) (v.Int b) = refl

-- whether a value stands in a list with one more
pub member-push : (xs : List Value) (x y : Value) → member (xs ++ x ∷ []) y ≡ (same_value x y || member xs y)
member-push [] x y = refl
member-push (z ∷ xs) x y = ap (λ b. same_value z y || b) (member-push xs x y) ∙ swap (same_value z y) (same_value x y) (member xs y)
  where
    swap : (a b c : Bool) → (a || (b || c)) ≡ (b || (a || c))
    swap true true c = refl
    swap true false c = refl
    swap false b c = refl

-- whether some value stands twice in a list with one more
pub twice-push : (xs : List Value) (x : Value) → has_twice (xs ++ x ∷ []) ≡ (member xs x || has_twice xs)
twice-push [] x = refl
twice-push (z ∷ xs) x =
    ap (λ b. b || has_twice (xs ++ x ∷ [])) (member-push xs x z)
    ∙ ap (λ b. (same_value x z || member xs z) || b) (twice-push xs x)
    ∙ ap (λ b. (b || member xs z) || (member xs x || has_twice xs)) (same_flip x z)
    ∙ swap (same_value z x) (member xs z) (member xs x) (has_twice xs)
  where
    swap : (a b c d : Bool) → ((a || b) || (c || d)) ≡ ((a || c) || (b || d))
    swap true b c d = refl
    swap false true true d = refl
    swap false true false d = refl
    swap false false c d = refl

-- what stands in the front stands in the list
member-more : (xs ys : List Value) (x : Value) → member xs x ≡ true → member (xs ++ ys) x ≡ true
member-more [] ys x h = cc
member-more (y ∷ xs) ys x h = by (same_value y x) h (λ k. member-more xs ys x k)
  where
    by : (b : Bool) → (b || member xs x) ≡ true → (member xs x ≡ true → member (xs ++ ys) x ≡ true) → (b || member (xs ++ ys) x) ≡ true
    by true h f = refl
    by false h f = f h

-- what stands twice in the front stands twice
twice-more : (xs ys : List Value) → has_twice xs ≡ true → has_twice (xs ++ ys) ≡ true
twice-more [] ys h = cc
twice-more (x ∷ xs) ys h = by (member xs x) refl h (λ k. twice-more xs ys k)
  where
    or_true : (b : Bool) → (b || true) ≡ true
    or_true true = refl
    or_true false = refl

    by : (b : Bool) → member xs x ≡ b → (b || has_twice xs) ≡ true → (has_twice xs ≡ true → has_twice (xs ++ ys) ≡ true) → (member (xs ++ ys) x || has_twice (xs ++ ys)) ≡ true
    by true e h f = ap (λ z. z || has_twice (xs ++ ys)) (member-more xs ys x e)
    by false e h f = ap (λ z. member (xs ++ ys) x || z) (f h) ∙ or_true (member (xs ++ ys) x)

-- the value at a place stands before it
pub found_twice : (xs : List Value) (i : ℕ) → i < length xs → member (take i xs) (get_or xs i (v.Bool false)) ≡ true → has_twice xs ≡ true
found_twice xs i l h =
    let x : Value = get_or xs i (v.Bool false) in
    subst (λ (ys : List Value). has_twice ys ≡ true) (take-append-drop (i + 1) xs)
    (twice-more (take (i + 1) xs) (drop (i + 1) xs)
    (ap has_twice (take_more xs i (v.Bool false) l) ∙ twice-push (take i xs) x ∙ ap (λ b. b || has_twice (take i xs)) h))
