-- Lists of lists.
use Rattle.std.proofs.Common.{◌≡◌, ◌++◌, ◌∷◌, [], Bool, true, false, cond, List, map, refl, ap, ◌∙◌}
use Rattle.std.specs.Prelude.{filter}
use Rattle.std.specs.List.{flat_map}
use Rattle.std.proofs.lemmas.Grind.{flat_map-append}

-- a list of lists of lists
pub fused : {A B C : Type 0} (f : B → List C) (g : A → List B) (xs : List A) → flat_map f (flat_map g xs) ≡ flat_map (λ x. flat_map f (g x)) xs
fused f g [] = refl
fused f g (x ∷ xs) = flat_map-append f (g x) (flat_map g xs) ∙ ap (λ ys. flat_map f (g x) ++ ys) (fused f g xs)

-- functions that give the same for each item
pub flat_map-same : {A B : Type 0} (f g : A → List B) → ((x : A) → f x ≡ g x) → (xs : List A) → flat_map f xs ≡ flat_map g xs
flat_map-same f g h [] = refl
flat_map-same f g h (x ∷ xs) = ap (λ ys. ys ++ flat_map f xs) (h x) ∙ ap (λ ys. g x ++ ys) (flat_map-same f g h xs)

-- one function after the other
pub map-after : {A B C : Type 0} (f : B → C) (g : A → B) (xs : List A) → map f (map g xs) ≡ map (λ x. f (g x)) xs
map-after f g [] = refl
map-after f g (x ∷ xs) = ap (λ ys. f (g x) ∷ ys) (map-after f g xs)

filter_by : {A : Type 0} (t : A → Bool) (x : A) (xs ys zs : List A) (b : Bool) → zs ≡ xs ++ ys → cond b (x ∷ zs) zs ≡ cond b (x ∷ xs) xs ++ ys
filter_by t x xs ys zs true h = ap (λ ws. x ∷ ws) h
filter_by t x xs ys zs false h = h

filter-append : {A : Type 0} (t : A → Bool) (xs ys : List A) → filter t (xs ++ ys) ≡ filter t xs ++ filter t ys
filter-append t [] ys = refl
filter-append t (x ∷ xs) ys = filter_by t x (filter t xs) (filter t ys) (filter t (xs ++ ys)) (t x) (filter-append t xs ys)

-- what passes a test, in a list of lists
pub filter-flat_map : {A B : Type 0} (t : B → Bool) (g : A → List B) (xs : List A) → filter t (flat_map g xs) ≡ flat_map (λ x. filter t (g x)) xs
filter-flat_map t g [] = refl
filter-flat_map t g (x ∷ xs) = filter-append t (g x) (flat_map g xs) ∙ ap (λ ys. filter t (g x) ++ ys) (filter-flat_map t g xs)
