-- What stands in a list.
use Rattle.std.proofs.Common.{◌≡◌, ◌⊎◌, inl, inr, Bool, true, false, cond, List, [], ◌∷◌, ◌++◌, map, find, Option, Some, None, refl, sym, ap, subst, ◌∙◌}
use Rattle.std.specs.List.{flat_map, list_all, filter}
use Rattle.std.proofs.lemmas.Bool.{and_parts, and_from}
use Rattle.cov_modules.specs.Names.{first}

-- the item stands in the list
abbrev pub Among : {A : Type 0} → List A → A → Type 0
Among [] x = ⊥
Among (y ∷ ys) x = (y ≡ x) ⊎ Among ys x

-- in a front or in the rest
pub among-left : {A : Type 0} (xs ys : List A) (x : A) → Among xs x → Among (xs ++ ys) x
among-left [] ys x h = absurd h
among-left (y ∷ xs) ys x (inl e) = inl e
among-left (y ∷ xs) ys x (inr h) = inr (among-left xs ys x h)

pub among-right : {A : Type 0} (xs ys : List A) (x : A) → Among ys x → Among (xs ++ ys) x
among-right [] ys x h = h
among-right (y ∷ xs) ys x h = inr (among-right xs ys x h)

pub among-split : {A : Type 0} (xs ys : List A) (x : A) → Among (xs ++ ys) x → Among xs x ⊎ Among ys x
among-split [] ys x h = inr h
among-split (y ∷ xs) ys x (inl e) = inl (inl e)
among-split (y ∷ xs) ys x (inr h) = elim (among-split xs ys x h) [ inl a ↦ inl (inr a) | inr b ↦ inr b ]

-- in a list of lists
pub among-flat : {A B : Type 0} (f : A → List B) (xs : List A) (x : A) (y : B) → Among xs x → Among (f x) y → Among (flat_map f xs) y
among-flat f [] x y h g = absurd h
among-flat f (z ∷ xs) x y (inl e) g = among-left (f z) (flat_map f xs) y (subst (λ w. Among (f w) y) (sym e) g)
among-flat f (z ∷ xs) x y (inr h) g = among-right (f z) (flat_map f xs) y (among-flat f xs x y h g)

pub from-flat : {A B : Type 0} (f : A → List B) (xs : List A) (y : B) → Among (flat_map f xs) y → (x : A) × Among xs x × Among (f x) y
from-flat f [] y h = absurd h
from-flat f (x ∷ xs) y h = elim (among-split (f x) (flat_map f xs) y h) [
  | inl a ↦ (x, inl refl, a)
  | inr b ↦ (let r = from-flat f xs y b in (r.0, inr r.1, r.2))
]

-- among what is made of each
pub among-map : {A B : Type 0} (f : A → B) (xs : List A) (x : A) → Among xs x → Among (map f xs) (f x)
among-map f [] x h = absurd h
among-map f (y ∷ xs) x (inl e) = inl (ap f e)
among-map f (y ∷ xs) x (inr h) = inr (among-map f xs x h)

pub from-map : {A B : Type 0} (f : A → B) (xs : List A) (y : B) → Among (map f xs) y → (x : A) × Among xs x × (f x ≡ y)
from-map f [] y h = absurd h
from-map f (x ∷ xs) y (inl e) = (x, inl refl, e)
from-map f (x ∷ xs) y (inr h) = let r = from-map f xs y h in (r.0, inr r.1, r.2)

-- among those that pass a test
pub from-filter : {A : Type 0} (t : A → Bool) (xs : List A) (x : A) → Among (filter t xs) x → Among xs x
from-filter t [] x h = absurd h
from-filter {A} t (y ∷ xs) x h = by (t y) (filter t xs) (from-filter t xs x) h
  where
    by : (b : Bool) (zs : List A) → (Among zs x → Among xs x) → Among (cond b (y ∷ zs) zs) x → Among (y ∷ xs) x
    by true zs rest (inl e) = inl e
    by true zs rest (inr g) = inr (rest g)
    by false zs rest g = inr (rest g)

-- what is found stands there, and passes
pub among-found : {A : Type 0} (t : A → Bool) (xs : List A) (x : A) → find t xs ≡ Some x → Among xs x
among-found t [] x e = absurd cc
among-found t (y ∷ ys) x e = by (t y) (among-found t ys x) e
  where
    by : (b : Bool) → (find t ys ≡ Some x → Among ys x) → cond b (Some y) (find t ys) ≡ Some x → Among (y ∷ ys) x
    by true rest e = inl cc
    by false rest e = inr (rest e)

pub found-passes : {A : Type 0} (t : A → Bool) (xs : List A) (x : A) → find t xs ≡ Some x → t x ≡ true
found-passes t [] x e = absurd cc
found-passes t (y ∷ ys) x e = by (t y) refl (found-passes t ys x) e
  where
    by : (b : Bool) → t y ≡ b → (find t ys ≡ Some x → t x ≡ true) → cond b (Some y) (find t ys) ≡ Some x → t x ≡ true
    by true is rest e = let same : y ≡ x = cc in sym (ap t same) ∙ is
    by false is rest e = rest e

-- each passes
pub each-passes : {A : Type 0} (t : A → Bool) (xs : List A) (x : A) → list_all t xs ≡ true → Among xs x → t x ≡ true
each-passes t [] x all h = absurd h
each-passes t (y ∷ ys) x all (inl e) = sym (ap t e) ∙ (and_parts (t y) (list_all t ys) all).0
each-passes t (y ∷ ys) x all (inr h) = each-passes t ys x (and_parts (t y) (list_all t ys) all).1 h

pub all-pass : {A : Type 0} (t : A → Bool) (xs : List A) → ((x : A) → Among xs x → t x ≡ true) → list_all t xs ≡ true
all-pass t [] h = refl
all-pass t (y ∷ ys) h = and_from (t y) (list_all t ys) (h y (inl refl)) (all-pass t ys (λ x g. h x (inr g)))

-- none of them has one
pub none-of : {A : Type 0} (os : List (Option A)) (o : Option A) → first os ≡ None → Among os o → o ≡ None
none-of [] o e h = absurd h
none-of (None ∷ os) o e (inl is) = sym is
none-of (None ∷ os) o e (inr h) = none-of os o e h
none-of (Some x ∷ os) o e h = absurd cc
