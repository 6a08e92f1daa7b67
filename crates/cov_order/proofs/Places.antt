-- Where the numbers of a list stand.
use Rattle.std.proofs.Common.{◌≡◌, ◌≢◌, ℕ, suc, ◌+◌, ◌<◌, ◌≤◌, Bool, true, false, not, ◌||◌, cond, if◌then◌else◌, IsTrue, List, [], ◌∷◌, ◌++◌, length, get_or, set, Option, Some, None, refl, sym, ap, subst, ◌∙◌, arith, get_or-set_same, get_or-set_other}
use Rattle.std.specs.Prelude.{◌==◌, nat_lt, position, slice_get, unwrap_or, option_map, is_some}
use Rattle.std.specs.List.{position_or_len}
use Rattle.std.proofs.lemmas.Option.{unwrap_or-slice_get, slice_get_past}
use Rattle.cov_model.specs.Order.{has}
use Rattle.cov_model.specs.WellFormed.{all_different}
use Rattle.cov_order.proofs.Numbers.{same_number, neither, length_of_different}

pub position-cons : (p : ℕ → Bool) (x : ℕ) (xs : List ℕ) → position p (x ∷ xs) ≡ cond (p x) (Some 0) (option_map (λ n. 1 + n) (position p xs))
position-cons p x xs = by (p x) refl (position_or_len p xs) (length xs)
  where
    below : (n l : ℕ) → nat_lt (1 + n) (suc l) ≡ nat_lt n l
    below n l = grind arith

    more : (b : Bool) (n l : ℕ) → nat_lt n l ≡ b → cond (nat_lt (1 + n) (suc l)) (Some (1 + n)) None ≡ option_map (λ k. 1 + k) (cond b (Some n) None)
    more true n l e = ap (λ (b : Bool). cond b (Some (1 + n)) None) (below n l ∙ e)
    more false n l e = ap (λ (b : Bool). cond b (Some (1 + n)) None) (below n l ∙ e)

    by : (b : Bool) → p x ≡ b → (n l : ℕ) → cond (nat_lt (cond (not b) (1 + n) 0) (suc l)) (Some (cond (not b) (1 + n) 0)) None ≡ cond b (Some 0) (option_map (λ n. 1 + n) (cond (nat_lt n l) (Some n) None))
    by true e n l = ap (λ (b : Bool). cond b (Some 0) None) (first l)
      where
        first : (l : ℕ) → nat_lt 0 (suc l) ≡ true
        first l = grind arith
    by false e n l = more (nat_lt n l) n l refl

-- a number that is there has a place
pub has_place : (j : ℕ) (xs : List ℕ) → is_some (position (λ k. k == j) xs) ≡ has xs j
has_place j [] = refl
has_place j (x ∷ xs) = ap is_some (position-cons (λ k. k == j) x xs) ∙ by (x == j) (position (λ k. k == j) xs) (has_place j xs)
  where
    by : (b : Bool) (o : Option ℕ) → is_some o ≡ has xs j → is_some (cond b (Some 0) (option_map (λ n. 1 + n) o)) ≡ (b || has xs j)
    by true o h = refl
    by false None h = h
    by false (Some n) h = h

-- the place of a number that is put last
pub position-push : (xs : List ℕ) (i j : ℕ) → has xs i ≡ false → position (λ k. k == j) (xs ++ i ∷ []) ≡ (if i == j then Some (length xs) else position (λ k. k == j) xs)
position-push [] i j h = position-cons (λ k. k == j) i []
position-push (x ∷ xs) i j h =
    let b = neither (x == i) (has xs i) h in
    position-cons (λ k. k == j) x (xs ++ i ∷ [])
    ∙ ap (λ (o : Option ℕ). cond (x == j) (Some 0) (option_map (λ n. 1 + n) o)) (position-push xs i j b.1)
    ∙ by (x == j) (i == j) refl refl b.0
    ∙ ap (λ (o : Option ℕ). if i == j then Some (suc (length xs)) else o) (sym (position-cons (λ k. k == j) x xs))
  where
    by : (a c : Bool) → (x == j) ≡ a → (i == j) ≡ c → (x == i) ≡ false
        → cond a (Some 0) (option_map (λ n. 1 + n) (if c then Some (length xs) else position (λ k. k == j) xs)) ≡ (if c then Some (suc (length xs)) else cond a (Some 0) (option_map (λ n. 1 + n) (position (λ k. k == j) xs)))
    by true true e f g = absurd (grind (arith, same_number x j e, same_number i j f))
    by true false e f g = refl
    by false true e f g = ap (λ (n : ℕ). Some n) (next (length xs))
      where
        next : (n : ℕ) → 1 + n ≡ suc n
        next n = omega arith
    by false false e f g = refl

-- one more place in the table
pub places-push : (places : List (Option ℕ)) (items : List ℕ) (i : ℕ) → i < length places → has items i ≡ false
    → ((j : ℕ) → unwrap_or (slice_get places j) None ≡ position (λ k. k == j) items)
    → (j : ℕ) → unwrap_or (slice_get (set places i (Some (length items))) j) None ≡ position (λ k. k == j) (items ++ i ∷ [])
places-push places items i l h right j =
    unwrap_or-slice_get (set places i (Some (length items))) j None
    ∙ by (i == j) refl
    ∙ sym (position-push items i j h)
  where
    by : (b : Bool) → (i == j) ≡ b → get_or (set places i (Some (length items))) j None ≡ (if b then Some (length items) else position (λ k. k == j) items)
    by true e = let s : i ≡ j = same_number i j e in
        subst (λ (z : ℕ). get_or (set places i (Some (length items))) z None ≡ Some (length items)) s (get_or-set_same places i (Some (length items)) None l)
    by false e = let s : j ≢ i = apart e in
        get_or-set_other places i j (Some (length items)) None s ∙ sym (unwrap_or-slice_get places j None) ∙ right j
      where
        apart : (i == j) ≡ false → j ≢ i
        apart e k = grind arith

-- a number that has a place stands in the table
pub there : (places : List (Option ℕ)) (items : List ℕ) → ((j : ℕ) → unwrap_or (slice_get places j) None ≡ position (λ k. k == j) items) → (j : ℕ) → has items j ≡ true → j < length places
there places items right j h = by (nat_lt j (length places)) refl
  where
    by : (b : Bool) → nat_lt j (length places) ≡ b → j < length places
    by true e = grind arith
    by false e =
        let past : length places ≤ j = grind arith in
        let none : None ≡ position (λ k. k == j) items = ap (λ (o : Option (Option ℕ)). unwrap_or o None) (sym (slice_get_past places j past)) ∙ right j in
        let no : false ≡ has items j = ap is_some none ∙ has_place j items in
        cc

-- no more numbers than places
pub items_fit : (places : List (Option ℕ)) (items : List ℕ) → IsTrue (all_different items) → ((j : ℕ) → unwrap_or (slice_get places j) None ≡ position (λ k. k == j) items) → length items ≤ length places
items_fit places items d right = length_of_different items (length places) d (there places items right)
