-- What stands in a list of names to which names are added.
use Rattle.std.proofs.Common.{◌≡◌, ℕ, zero, suc, ◌+◌, ◌<◌, ◌≤◌, ◌⊎◌, inl, inr, Bool, true, false, cond, ◌||◌, ◌==◌, List, [], ◌∷◌, ◌++◌, map, fold, length, get_or, refl, sym, ap, subst, ◌∙◌, arith, length-append, append_assoc, eqb}
use Rattle.std.specs.List.{list_any, IsDistinct}
use Rattle.std.specs.Cmp.{IsEquivalence}
use Rattle.std.proofs.lemmas.Bool.Decides.{nat_tests}
use Rattle.std.proofs.lemmas.Map.Keys.{IsDistinct-push}
use Rattle.cov_modules.specs.Names.{has, with_name}
use Rattle.cov_modules.proofs.NameLemmas.{has-append, same-number, number-self}

-- one of two tests is true
pub or-left : (a b : Bool) → a ≡ true → (a || b) ≡ true
or-left true b h = refl
or-left false b h = absurd cc

-- one of two tests is true
pub or-right : (a b : Bool) → b ≡ true → (a || b) ≡ true
or-right true b h = refl
or-right false b h = h

-- one of them is it
pub or-split : (a b : Bool) → (a || b) ≡ true → (a ≡ true) ⊎ (b ≡ true)
or-split true b h = inl refl
or-split false b h = inr h

-- tests that follow from each other
pub same-test : (a b : Bool) → (a ≡ true → b ≡ true) → (b ≡ true → a ≡ true) → a ≡ b
same-test true b f g = sym (f refl)
same-test false true f g = g refl
same-test false false f g = refl

-- a weaker test passes too
pub any-more : {A : Type 0} → (f g : A → Bool) (xs : List A) → ((x : A) → f x ≡ true → g x ≡ true) → list_any f xs ≡ true → list_any g xs ≡ true
any-more f g [] h e = e
any-more f g (x ∷ xs) h e = elim (or-split (f x) (list_any f xs) e) [ inl a ↦ or-left (g x) (list_any g xs) (h x a) | inr b ↦ or-right (g x) (list_any g xs) (any-more f g xs h b) ]

-- a test of what a function gives
pub any-map : {A B : Type 0} → (f : B → Bool) (g : A → B) (xs : List A) → list_any f (map g xs) ≡ list_any (λ x. f (g x)) xs
any-map f g [] = refl
any-map f g (x ∷ xs) = ap (λ b. f (g x) || b) (any-map f g xs)

-- a name stands at its place
pub has-at : (xs : List ℕ) (k : ℕ) → k < length xs → has xs (get_or xs k 0) ≡ true
has-at [] k h = absurd (omega arith)
has-at (x ∷ xs) zero h = or-left (x == x) (has xs x) (number-self x)
has-at (x ∷ xs) (suc k) h = or-right (x == get_or xs k 0) (has xs (get_or xs k 0)) (has-at xs k (omega arith))

-- with the name put last, by whether it stood there
last-by : (xs : List ℕ) (y : ℕ) (b : Bool) → List ℕ
last-by xs y b = cond b xs (xs ++ y ∷ [])

module _ (xs : List ℕ) (y : ℕ) where
  has-last : (x : ℕ) → has (xs ++ y ∷ []) x ≡ true → (y ≡ x) ⊎ (has xs x ≡ true)
  has-last x h = elim (or-split (has xs x) (has (y ∷ []) x) (sym (has-append xs (y ∷ []) x) ∙ h)) [
    | inl a ↦ inr a
    | inr b ↦ inl (same-number y x (elim (or-split (y == x) false b) [ inl e ↦ e | inr n ↦ absurd cc ]))
  ]

  kept-by : (b : Bool) (x : ℕ) → has xs x ≡ true → has (cond b xs (xs ++ y ∷ [])) x ≡ true
  kept-by true x h = h
  kept-by false x h = has-append xs (y ∷ []) x ∙ or-left (has xs x) (has (y ∷ []) x) h

  put-by : (b : Bool) → has xs y ≡ b → has (cond b xs (xs ++ y ∷ [])) y ≡ true
  put-by true e = e
  put-by false e = has-append xs (y ∷ []) y ∙ or-right (has xs y) (has (y ∷ []) y) (or-left (y == y) false (number-self y))

  only-by : (b : Bool) (x : ℕ) → has (cond b xs (xs ++ y ∷ [])) x ≡ true → (y ≡ x) ⊎ (has xs x ≡ true)
  only-by true x h = inr h
  only-by false x h = has-last x h

  new-by : (b : Bool) (x : ℕ) → has xs y ≡ b → has (cond b xs (xs ++ y ∷ [])) x ≡ true → (has xs x ≡ true) ⊎ (length xs + 1 ≤ length (cond b xs (xs ++ y ∷ [])))
  new-by true x e h = inl h
  new-by false x e h = inr (omega (arith, length-append xs (y ∷ [])))

  longer-by : (b : Bool) → length xs ≤ length (cond b xs (xs ++ y ∷ []))
  longer-by true = omega arith
  longer-by false = omega (arith, length-append xs (y ∷ []))

  rest-by : (b : Bool) → (t : List ℕ) × (cond b xs (xs ++ y ∷ []) ≡ xs ++ t)
  rest-by true = ([], sym (append-nil xs))
    where
      append-nil : (xs : List ℕ) → xs ++ [] ≡ xs
      append-nil [] = refl
      append-nil (x ∷ xs) = ap (λ ys. x ∷ ys) (append-nil xs)
  rest-by false = (y ∷ [], refl)

-- what stood there stands there
pub fold-kept : (ys xs : List ℕ) (x : ℕ) → has xs x ≡ true → has (fold with_name xs ys) x ≡ true
fold-kept [] xs x h = h
fold-kept (y ∷ ys) xs x h = fold-kept ys (with_name xs y) x (kept-by xs y (has xs y) x h)

-- what is added stands there
pub fold-put : (ys xs : List ℕ) (x : ℕ) → has ys x ≡ true → has (fold with_name xs ys) x ≡ true
fold-put [] xs x h = absurd cc
fold-put (y ∷ ys) xs x h = elim (or-split (y == x) (has ys x) h) [
  | inl a ↦ fold-kept ys (with_name xs y) x (subst (λ z. has (with_name xs y) z ≡ true) (same-number y x a) (put-by xs y (has xs y) refl))
  | inr b ↦ fold-put ys (with_name xs y) x b
]

-- and nothing else
pub fold-only : (ys xs : List ℕ) (x : ℕ) → has (fold with_name xs ys) x ≡ true → (has ys x ≡ true) ⊎ (has xs x ≡ true)
fold-only [] xs x h = inr h
fold-only (y ∷ ys) xs x h = elim (fold-only ys (with_name xs y) x h) [
  | inl a ↦ inl (or-right (y == x) (has ys x) a)
  | inr b ↦ elim (only-by xs y (has xs y) x b) [ inl e ↦ inl (or-left (y == x) (has ys x) (ap (λ z. y == z) (sym e) ∙ number-self y)) | inr c ↦ inr c ]
]

-- the list does not get shorter
pub fold-longer : (ys xs : List ℕ) → length xs ≤ length (fold with_name xs ys)
fold-longer [] xs = omega arith
fold-longer (y ∷ ys) xs = let a = longer-by xs y (has xs y) in let b = fold-longer ys (with_name xs y) in omega arith

-- where something is new, it is longer
pub fold-new : (ys xs : List ℕ) (x : ℕ) → has (fold with_name xs ys) x ≡ true → (has xs x ≡ true) ⊎ (length xs + 1 ≤ length (fold with_name xs ys))
fold-new [] xs x h = inl h
fold-new (y ∷ ys) xs x h = elim (fold-new ys (with_name xs y) x h) [
  | inl a ↦ elim (new-by xs y (has xs y) x refl a) [
    | inl b ↦ inl b
    | inr c ↦ inr (let d = fold-longer ys (with_name xs y) in omega arith)
  ]
  | inr e ↦ inr (let d = longer-by xs y (has xs y) in omega arith)
]

-- the list keeps its front
pub fold-rest : (ys xs : List ℕ) → (t : List ℕ) × (fold with_name xs ys ≡ xs ++ t)
fold-rest [] xs = ([], sym (append-nil xs))
  where
    append-nil : (xs : List ℕ) → xs ++ [] ≡ xs
    append-nil [] = refl
    append-nil (x ∷ xs) = ap (λ ys. x ∷ ys) (append-nil xs)
fold-rest (y ∷ ys) xs =
    let a = rest-by xs y (has xs y) in
    let b = fold-rest ys (with_name xs y) in
    (a.0 ++ b.0, b.1 ∙ ap (λ zs. zs ++ b.0) a.1 ∙ append_assoc xs a.0 b.0)

-- the test of a set of numbers
pub flipped : (xs : List ℕ) (y : ℕ) → list_any (eqb y) xs ≡ has xs y
flipped [] y = refl
flipped (x ∷ xs) y = ap (λ b. b || list_any (eqb y) xs) (swap y x) ∙ ap (λ b. (x == y) || b) (flipped xs y)
  where
    swap : (a b : ℕ) → eqb a b ≡ (b == a)
    swap a b = grind (arith, nat_tests)

-- equality of numbers is one
pub equal-numbers : IsEquivalence eqb
equal-numbers = record {
  refl = λ x. grind (arith, nat_tests);
  symm = λ x y. grind (arith, nat_tests);
  congr = λ x y z e. grind (arith, nat_tests);
}

-- nothing stands twice in the empty list
pub distinct-nil : IsDistinct eqb []
unfolding IsDistinct
distinct-nil = tt

-- each name stands once
pub distinct-by : (xs : List ℕ) (y : ℕ) (b : Bool) → has xs y ≡ b → IsDistinct eqb xs → IsDistinct eqb (cond b xs (xs ++ y ∷ []))
distinct-by xs y true e d = d
distinct-by xs y false e d = IsDistinct-push equal-numbers xs y d (flipped xs y ∙ e)

-- and so with names added
pub fold-distinct : (ys xs : List ℕ) → IsDistinct eqb xs → IsDistinct eqb (fold with_name xs ys)
fold-distinct [] xs d = d
fold-distinct (y ∷ ys) xs d = fold-distinct ys (with_name xs y) (distinct-by xs y (has xs y) refl d)
