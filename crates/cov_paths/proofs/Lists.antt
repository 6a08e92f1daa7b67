-- Places in lists of lists.
use Rattle.std.proofs.Common.{◌≡◌, ℕ, zero, suc, ◌+◌, ◌<◌, ◌≤◌, Bool, true, false, cond, List, [], ◌∷◌, ◌++◌, map, find, length, take, slice_get, option_map, Option, Some, refl, sym, ap, subst, ◌∙◌, arith, length-append}
use Rattle.std.specs.List.{flat_map, AllZip}
use Rattle.std.proofs.lemmas.List.{length-map}
use Rattle.std.proofs.lemmas.Option.{slice_get-map, slice_get_within}

-- there is an item at a place within the list
pub item-there : {A : Type 0} → (xs : List A) (k : ℕ) → k < length xs → (x : A) × (slice_get xs k ≡ Some x)
item-there [] k h = absurd (omega arith)
item-there (x ∷ xs) zero h = (x, refl)
item-there (x ∷ xs) (suc k) h = item-there xs k (omega arith)

-- a place in the front
pub get-front : {A : Type 0} → (xs ys : List A) (n : ℕ) → n < length xs → slice_get (xs ++ ys) n ≡ slice_get xs n
get-front [] ys n h = absurd (omega arith)
get-front (x ∷ xs) ys zero h = refl
get-front (x ∷ xs) ys (suc n) h = get-front xs ys n (omega arith)

-- a place behind the front
pub get-behind : {A : Type 0} → (xs ys : List A) (n : ℕ) → slice_get (xs ++ ys) (length xs + n) ≡ slice_get ys n
get-behind [] ys n = let e : 0 + n ≡ n = omega arith in ap (slice_get ys) e
get-behind (x ∷ xs) ys n = let e : suc (length xs) + n ≡ suc (length xs + n) = omega arith in ap (slice_get (x ∷ xs ++ ys)) e ∙ get-behind xs ys n

module _ {A B : Type 0} (f : A → List B) where
  -- a place in the list of an item, behind the lists of the items before it
  pub get-flat : (w : List A) (k : ℕ) (s : A) (r : ℕ) → slice_get w k ≡ Some s → r < length (f s) → slice_get (flat_map f w) (length (flat_map f (take k w)) + r) ≡ slice_get (f s) r
  get-flat [] k s r at h = absurd cc
  get-flat (x ∷ xs) zero s r at h =
      let same : x ≡ s = cc in
      let e : 0 + r ≡ r = omega arith in
      let short : r < length (f x) = subst (λ (y : A). r < length (f y)) (sym same) h in
      ap (slice_get (f x ++ flat_map f xs)) e ∙ get-front (f x) (flat_map f xs) r short ∙ ap (λ (y : A). slice_get (f y) r) same
  get-flat (x ∷ xs) (suc k) s r at h =
      let e : length (f x ++ flat_map f (take k xs)) + r ≡ length (f x) + (length (flat_map f (take k xs)) + r) = omega (arith, length-append (f x) (flat_map f (take k xs))) in
      ap (slice_get (f x ++ flat_map f xs)) e ∙ get-behind (f x) (flat_map f xs) (length (flat_map f (take k xs)) + r) ∙ get-flat xs k s r at h

  -- the lists of the first items are no longer than all
  pub few-flat : (w : List A) (k : ℕ) (s : A) → slice_get w k ≡ Some s → length (flat_map f (take k w)) + length (f s) ≤ length (flat_map f w)
  few-flat [] k s at = absurd cc
  few-flat (x ∷ xs) zero s at =
      let same : x ≡ s = cc in
      let e : length (f x) ≡ length (f s) = ap (λ (y : A). length (f y)) same in
      omega (arith, length-append (f x) (flat_map f xs))
  few-flat (x ∷ xs) (suc k) s at =
      let rest = few-flat xs k s at in
      omega (arith, length-append (f x) (flat_map f (take k xs)), length-append (f x) (flat_map f xs))

  -- the same, with a name of each
  pub get-flat-map : {C : Type 0} → (g : B → C) (w : List A) (k : ℕ) (s : A) (r : ℕ) (d : C) → slice_get w k ≡ Some s → slice_get (map g (f s)) r ≡ Some d → slice_get (map g (flat_map f w)) (length (flat_map f (take k w)) + r) ≡ Some d
  get-flat-map g w k s r d at h =
      let within : r < length (map g (f s)) = slice_get_within (map g (f s)) r d h in
      let short : r < length (f s) = omega (arith, length-map (f s) g) in
      slice_get-map g (flat_map f w) (length (flat_map f (take k w)) + r)
      ∙ ap (option_map g) (get-flat w k s r at short)
      ∙ sym (slice_get-map g (f s) r)
      ∙ h

-- by whether the first item passes
found-by : {A : Type 0} → (t : A → Bool) (y x : A) (o : Option A) (b : Bool) → t y ≡ b → (o ≡ Some x → t x ≡ true) → cond b (Some y) o ≡ Some x → t x ≡ true
found-by t y x o true h f e = let same : y ≡ x = cc in subst (λ z. t z ≡ true) same h
found-by t y x o false h f e = f e

-- what is found passes the test
pub find-passes : {A : Type 0} → (t : A → Bool) (xs : List A) (x : A) → find t xs ≡ Some x → t x ≡ true
find-passes t [] x e = absurd cc
find-passes t (y ∷ ys) x e = found-by t y x (find t ys) (t y) refl (find-passes t ys x) e

-- by whether it is the last
push-by : {A : Type 0} → (P : ℕ → A → Type 0) (xs : List A) (x y : A) (j n : ℕ) → ((i : ℕ) (z : A) → slice_get xs i ≡ Some z → P (n + i) z) → P (n + length xs) x → slice_get (xs ++ x ∷ []) j ≡ Some y → P (n + j) y
push-by P [] x y zero n h last at = let same : x ≡ y = cc in subst (λ z. P (n + 0) z) same last
push-by P [] x y (suc j) n h last at = absurd cc
push-by P (z ∷ xs) x y zero n h last at = h zero y at
push-by {A} P (z ∷ xs) x y (suc j) n h last at =
    let shift : (i : ℕ) → n + suc i ≡ suc n + i = λ i. omega arith in
    subst (λ m. P m y) (sym (shift j))
    (push-by P xs x y j (suc n) (λ i w a. subst (λ m. P m w) (shift i) (h (suc i) w a)) (subst (λ m. P m x) (shift (length xs)) last) at)

-- what holds of each item holds with one more
pub push-each : {A : Type 0} → (P : ℕ → A → Type 0) (xs : List A) (x : A) → ((i : ℕ) (z : A) → slice_get xs i ≡ Some z → P i z) → P (length xs) x → (j : ℕ) (y : A) → slice_get (xs ++ x ∷ []) j ≡ Some y → P j y
push-each {A} P xs x h last j y at =
    let same : (i : ℕ) → 0 + i ≡ i = λ i. omega arith in
    subst (λ m. P m y) (same j) (push-by P xs x y j 0 (λ i z a. subst (λ m. P m z) (sym (same i)) (h i z a)) (subst (λ m. P m x) (sym (same (length xs))) last) at)

-- one more pair of two lists
pub zip-more : {A B : Type 0} → (R : A → B → Type 0) (xs : List A) (j : ℕ) (x : A) (ys : List B) (y : B) → slice_get xs j ≡ Some x → AllZip R (take j xs) ys → R x y → AllZip R (take (j + 1) xs) (ys ++ y ∷ [])
zip-more R [] j x ys y at all r = absurd cc
zip-more R (a ∷ xs) zero x [] y at all r = let same : a ≡ x = cc in (subst (λ z. R z y) (sym same) r, tt)
zip-more R (a ∷ xs) zero x (b ∷ ys) y at all r = absurd all
zip-more R (a ∷ xs) (suc j) x [] y at all r = absurd all
zip-more R (a ∷ xs) (suc j) x (b ∷ ys) y at all r =
    let next : suc (j + 1) ≡ suc j + 1 = omega arith in
    subst (λ n. AllZip R (take n (a ∷ xs)) (b ∷ ys ++ y ∷ [])) next (all.0, zip-more R xs j x ys y at all.1 r)
