-- Lists of lists, and the parts of a list at a place.
use Rattle.std.proofs.Common.{◌≡◌, ◌≢◌, ℕ, zero, suc, ◌+◌, ◌<◌, ◌≤◌, List, [], ◌∷◌, ◌++◌, length, take, drop, slice_get, slice_set, Some, refl, sym, ap, ◌∙◌, arith, length-append}
use Rattle.std.specs.List.{flat_map}
use Rattle.std.proofs.lemmas.List.{take-append-drop, append-nil}
use Rattle.std.proofs.lemmas.Grind.{flat_map-append}
use Rattle.std.proofs.Math.Seq.{drop-append_seam}

-- The parts of a list at a place: the item there, what is before it, and what is behind it.
pub record IsParted {A : Type 0} (xs : List A) (n : ℕ) (x : A) (rest : List A) : Type 0 where
  pub below : n < length xs
  pub here : slice_get xs n ≡ Some x
  pub after : drop (suc n) xs ≡ rest
  pub front : take (suc n) xs ≡ take n xs ++ x ∷ []

-- by what is left
pub parted : {A : Type 0} → (xs : List A) (n : ℕ) (x : A) (rest : List A) → drop n xs ≡ x ∷ rest → IsParted xs n x rest
parted [] zero x rest h = absurd cc
parted [] (suc n) x rest h = absurd cc
parted (y ∷ ys) zero x rest h = let same : y ≡ x = cc in let tail : ys ≡ rest = cc in record {
  below = omega arith;
  here = ap Some same;
  after = tail;
  front = ap (λ z. z ∷ []) same;
}
parted (y ∷ ys) (suc n) x rest h = let r = parted ys n x rest h in record {
  below = let b = r.below in omega arith;
  here = r.here;
  after = r.after;
  front = ap (λ zs. y ∷ zs) r.front;
}

-- by the item
pub drop-at : {A : Type 0} → (xs : List A) (n : ℕ) (x : A) → slice_get xs n ≡ Some x → drop n xs ≡ x ∷ drop (suc n) xs
drop-at [] n x h = absurd cc
drop-at (y ∷ ys) zero x h = let same : y ≡ x = cc in ap (λ z. z ∷ ys) same
drop-at (y ∷ ys) (suc n) x h = drop-at ys n x h

-- an item behind a place
pub get-behind : {A : Type 0} → (xs : List A) (n j : ℕ) → slice_get xs (n + j) ≡ slice_get (drop n xs) j
get-behind xs zero j = let e : 0 + j ≡ j = omega arith in ap (slice_get xs) e
get-behind [] (suc n) j = let e : suc n + j ≡ suc (n + j) = omega arith in ap (slice_get []) e
get-behind (x ∷ xs) (suc n) j = let e : suc n + j ≡ suc (n + j) = omega arith in ap (slice_get (x ∷ xs)) e ∙ get-behind xs n j

-- an item of the front
pub get-front : {A : Type 0} → (xs ys : List A) (j : ℕ) (x : A) → slice_get xs j ≡ Some x → slice_get (xs ++ ys) j ≡ Some x
get-front [] ys j x h = absurd cc
get-front (y ∷ xs) ys zero x h = h
get-front (y ∷ xs) ys (suc j) x h = get-front xs ys j x h

-- the same, by the length
pub get-within : {A : Type 0} → (xs ys : List A) (j : ℕ) → j < length xs → slice_get (xs ++ ys) j ≡ slice_get xs j
get-within [] ys j h = absurd (omega arith)
get-within (x ∷ xs) ys zero h = refl
get-within (x ∷ xs) ys (suc j) h = get-within xs ys j (omega arith)

-- the item put last
pub get-last : {A : Type 0} → (xs : List A) (x : A) → slice_get (xs ++ x ∷ []) (length xs) ≡ Some x
get-last [] x = refl
get-last (y ∷ xs) x = get-last xs x

-- one more item
pub length-last : {A : Type 0} → (xs : List A) (x : A) → length (xs ++ x ∷ []) ≡ suc (length xs)
length-last [] x = refl
length-last (y ∷ xs) x = ap suc (length-last xs x)

-- the item that is put at a place
pub get-set : {A : Type 0} → (xs : List A) (i : ℕ) (x : A) → i < length xs → slice_get (slice_set xs i x) i ≡ Some x
get-set [] i x h = absurd (omega arith)
get-set (y ∷ xs) zero x h = refl
get-set (y ∷ xs) (suc i) x h = get-set xs i x (omega arith)

-- those at the other places
pub get-other : {A : Type 0} → (xs : List A) (i j : ℕ) (x : A) → j ≢ i → slice_get (slice_set xs i x) j ≡ slice_get xs j
get-other [] i j x h = refl
get-other (y ∷ xs) zero zero x h = absurd (h refl)
get-other (y ∷ xs) zero (suc j) x h = refl
get-other (y ∷ xs) (suc i) zero x h = refl
get-other (y ∷ xs) (suc i) (suc j) x h = get-other xs i j x (λ e. h (ap suc e))

module _ {A B : Type 0} (f : A → List B) where
  -- what is left of the lists, where an item is left
  pub flat-drop : (xs : List A) (n : ℕ) (x : A) (rest : List A) → drop n xs ≡ x ∷ rest → drop (length (flat_map f (take n xs))) (flat_map f xs) ≡ f x ++ flat_map f rest
  flat-drop xs n x rest h =
      ap (drop (length (flat_map f (take n xs)))) (ap (flat_map f) (sym (take-append-drop n xs)) ∙ flat_map-append f (take n xs) (drop n xs))
      ∙ drop-append_seam (flat_map f (take n xs)) (flat_map f (drop n xs))
      ∙ ap (flat_map f) h

  -- the lists of one more item
  pub flat-more : (xs : List A) (n : ℕ) (x : A) → take (suc n) xs ≡ take n xs ++ x ∷ [] → length (flat_map f (take (suc n) xs)) ≡ length (flat_map f (take n xs)) + length (f x)
  flat-more xs n x h =
      ap (λ ys. length (flat_map f ys)) h
      ∙ ap length (flat_map-append f (take n xs) (x ∷ []))
      ∙ ap (λ ys. length (flat_map f (take n xs) ++ ys)) (append-nil (f x))
      ∙ length-append (flat_map f (take n xs)) (f x)

  -- fewer items have no more
  pub flat-fewer : (xs : List A) (n m : ℕ) → n ≤ m → length (flat_map f (take n xs)) ≤ length (flat_map f (take m xs))
  flat-fewer xs zero m h = omega arith
  flat-fewer xs (suc n) zero h = absurd (omega arith)
  flat-fewer [] (suc n) (suc m) h = omega arith
  flat-fewer (x ∷ xs) (suc n) (suc m) h = let rest = flat-fewer xs n m (omega arith) in
      omega (arith, rest, length-append (f x) (flat_map f (take n xs)), length-append (f x) (flat_map f (take m xs)))

  -- those of one item are no more than all
  pub flat-part : (xs : List A) (n : ℕ) (x : A) → slice_get xs n ≡ Some x → length (f x) ≤ length (flat_map f xs)
  flat-part [] n x h = absurd cc
  flat-part (y ∷ xs) zero x h = let same : y ≡ x = cc in let e = ap (λ z. length (f z)) same in omega (arith, e, length-append (f y) (flat_map f xs))
  flat-part (y ∷ xs) (suc n) x h = let rest = flat-part xs n x h in omega (arith, rest, length-append (f y) (flat_map f xs))
