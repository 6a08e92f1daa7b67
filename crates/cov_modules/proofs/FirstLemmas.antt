-- The first that is there, in a list that a loop goes through.
use Rattle.std.proofs.Common.{◌≡◌, ℕ, zero, suc, ◌+◌, ◌<◌, ◌≤◌, Bool, true, false, cond, List, [], ◌∷◌, ◌++◌, map, find, length, drop, get_or, Option, Some, None, refl, sym, ap, subst, ◌∙◌, arith}
use Rattle.std.specs.List.{flat_map}
use Rattle.std.specs.Option.{option_or}
use Rattle.std.proofs.lemmas.List.{drop_more, drop_all}
use Rattle.cov_modules.specs.Names.{first}

-- the first of the front, or else of the rest
pub first-append : {B : Type 0} → (xs ys : List (Option B)) → first (xs ++ ys) ≡ option_or (first xs) (first ys)
first-append [] ys = refl
first-append (None ∷ xs) ys = first-append xs ys
first-append (Some x ∷ xs) ys = refl

-- neither has one
pub or-none : {B : Type 0} → (o r : Option B) → option_or o r ≡ None → (o ≡ None) × (r ≡ None)
or-none None r e = (refl, e)
or-none (Some x) r e = absurd cc

-- one more item of a list, at the place of a loop
pub drop-item : {A : Type 0} → (xs : List A) (i : ℕ) (x d : A) → i < length xs → x ≡ get_or xs i d → drop i xs ≡ x ∷ drop (i + 1) xs
drop-item xs i x d below is = drop_more xs i d below ∙ ap (λ y. y ∷ drop (i + 1) xs) (sym is)

module _ {A B : Type 0} (f : A → List (Option B)) where
  front : (xs : List A) (i : ℕ) (x : A) → i < length xs → x ≡ get_or xs i x → first (flat_map f (drop i xs)) ≡ option_or (first (f x)) (first (flat_map f (drop (i + 1) xs)))
  front xs i x below is = ap (λ ys. first (flat_map f ys)) (drop-item xs i x x below is) ∙ first-append (f x) (flat_map f (drop (i + 1) xs))

  -- the item has one
  pub first-hit : (xs : List A) (i : ℕ) (x : A) (b : B) → i < length xs → x ≡ get_or xs i x → first (f x) ≡ Some b → first (flat_map f (drop i xs)) ≡ Some b
  first-hit xs i x b below is h = front xs i x below is ∙ ap (λ o. option_or o (first (flat_map f (drop (i + 1) xs)))) h

  -- the item has none
  pub first-miss : (xs : List A) (i : ℕ) (x : A) → i < length xs → x ≡ get_or xs i x → first (f x) ≡ None → first (flat_map f (drop (i + 1) xs)) ≡ first (flat_map f (drop i xs))
  first-miss xs i x below is h = sym (front xs i x below is ∙ ap (λ o. option_or o (first (flat_map f (drop (i + 1) xs)))) h)

  -- nothing is left
  pub first-end : (xs : List A) (i : ℕ) → length xs ≤ i → first (flat_map f (drop i xs)) ≡ None
  first-end xs i h = ap (λ ys. first (flat_map f ys)) (drop_all i xs h)

-- a function on each item of two lists
pub map-append : {B C : Type 0} → (f : B → C) (xs ys : List B) → map f (xs ++ ys) ≡ map f xs ++ map f ys
map-append f [] ys = refl
map-append f (x ∷ xs) ys = ap (λ zs. f x ∷ zs) (map-append f xs ys)

-- a list for each section, each item of it by its own
pub map-flat_map : {A B C : Type 0} → (f : B → C) (g : A → List B) (xs : List A) → map f (flat_map g xs) ≡ flat_map (λ x. map f (g x)) xs
map-flat_map f g [] = refl
map-flat_map f g (x ∷ xs) = map-append f (g x) (flat_map g xs) ∙ ap (λ ys. map f (g x) ++ ys) (map-flat_map f g xs)

-- one item for each
pub map-single : {A B : Type 0} → (f : A → B) (xs : List A) → map f xs ≡ flat_map (λ x. f x ∷ []) xs
map-single f [] = refl
map-single f (x ∷ xs) = ap (λ ys. f x ∷ ys) (map-single f xs)

-- the first item that passes a test, where the item at the place of a loop does
pub find-hit : {A : Type 0} → (t : A → Bool) (xs : List A) (i : ℕ) (x : A) → i < length xs → x ≡ get_or xs i x → t x ≡ true → find t (drop i xs) ≡ Some x
find-hit t xs i x below is h = ap (find t) (drop-item xs i x x below is) ∙ ap (λ b. cond b (Some x) (find t (drop (i + 1) xs))) h

-- by whether the item is the first of the list
none_by : {A B : Type 0} → (f : A → List (Option B)) (b : Bool) (x y : A) (o : Option A) (r : Option B) → (o ≡ Some x → r ≡ None → first (f x) ≡ None) → cond b (Some y) o ≡ Some x → option_or (first (f y)) r ≡ None → first (f x) ≡ None
none_by f true x y o r h e n = let is : y ≡ x = cc in subst (λ z. first (f z) ≡ None) is (or-none (first (f y)) r n).0
none_by f false x y o r h e n = h e (or-none (first (f y)) r n).1

-- none of the list has one, so none of an item that is found has
pub first-none-found : {A B : Type 0} → (f : A → List (Option B)) (t : A → Bool) (xs : List A) (x : A) → find t xs ≡ Some x → first (flat_map f xs) ≡ None → first (f x) ≡ None
first-none-found f t [] x e h = absurd cc
first-none-found f t (y ∷ ys) x e h = none_by f (t y) x y (find t ys) (first (flat_map f ys)) (first-none-found f t ys x) e (sym (first-append (f y) (flat_map f ys)) ∙ h)

-- none of the list has one, so none of the items left has
pub first-none-at : {A B : Type 0} → (f : A → List (Option B)) (xs : List A) (i : ℕ) (x : A) → i < length xs → x ≡ get_or xs i x → first (flat_map f xs) ≡ None → first (f x) ≡ None
first-none-at f [] i x below is h = absurd (omega arith)
first-none-at f (y ∷ ys) zero x below is h = ap (λ z. first (f z)) is ∙ (or-none (first (f y)) (first (flat_map f ys)) (sym (first-append (f y) (flat_map f ys)) ∙ h)).0
first-none-at f (y ∷ ys) (suc i) x below is h = first-none-at f ys i x (omega arith) is (or-none (first (f y)) (first (flat_map f ys)) (sym (first-append (f y) (flat_map f ys)) ∙ h)).1
