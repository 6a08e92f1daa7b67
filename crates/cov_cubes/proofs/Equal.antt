-- Equal sets, and loops over the values of a variable.
use Rattle.std.proofs.Common.{◌≡◌, ℕ, zero, suc, ◌<◌, ◌+◌, ◌-◌, ◌↔◌, not, ◌&&◌, ◌||◌, ◌++◌, if◌then◌else◌, List, [], ◌∷◌, Bool, true, false, IsTrue, map, refl, sym, ◌∙◌, ap, arith, subst, append_assoc}
use Rattle.std.specs.Prelude.{filter}
use Rattle.std.proofs.lemmas.List.Concat.{flat_map-cons}
use Rattle.std.specs.List.{list_any, range_with_len}
use Rattle.cov_cubes.specs.Steps.{equal_sets, classes_from, class_by, is_new}

-- truths that say the same are one
pub bool_same : (a b : Bool) → (IsTrue a → IsTrue b) → (IsTrue b → IsTrue a) → a ≡ b
bool_same true true f g = refl
bool_same true false f g = let h : IsTrue false = f (cc) in cc
bool_same false true f g = let h : IsTrue false = g (cc) in cc
bool_same false false f g = refl

pub equal_refl : (xs : List Bool) → IsTrue (equal_sets xs xs)
equal_refl [] = cc
equal_refl (true ∷ xs) = equal_refl xs
equal_refl (false ∷ xs) = equal_refl xs

pub equal_true : (xs ys : List Bool) → IsTrue (equal_sets xs ys) → xs ≡ ys
equal_true [] [] h = refl
equal_true [] (y ∷ ys) h = cc
equal_true (x ∷ xs) [] h = cc
equal_true (true ∷ xs) (true ∷ ys) h = ap (λ (z : List Bool). true ∷ z) (equal_true xs ys h)
equal_true (true ∷ xs) (false ∷ ys) h = cc
equal_true (false ∷ xs) (true ∷ ys) h = cc
equal_true (false ∷ xs) (false ∷ ys) h = ap (λ (z : List Bool). false ∷ z) (equal_true xs ys h)

pub equal_test : (b : Bool) (xs ys : List Bool) → IsTrue b ↔ (xs ≡ ys) → b ≡ equal_sets xs ys
equal_test b xs ys h = bool_same b (equal_sets xs ys) (λ t. subst (λ (z : List Bool). IsTrue (equal_sets xs z)) (h.0 t) (equal_refl xs)) (λ t. h.1 (equal_true xs ys t))

-- ---- loops

pub range_next : (w n : ℕ) → w < n → range_with_len w (n - w) ≡ w ∷ range_with_len (w + 1) (n - (w + 1))
range_next w n lt = let e : n - w ≡ suc (n - (w + 1)) = omega arith in ap (range_with_len w) e

pub any_more : (p : ℕ → Bool) (w n : ℕ) (whole : Bool) → w < n → p w ≡ false → list_any p (range_with_len w (n - w)) ≡ whole → list_any p (range_with_len (w + 1) (n - (w + 1))) ≡ whole
any_more p w n whole lt miss e =
    sym (ap (list_any p) (range_next w n lt) ∙ ap (λ b. b || list_any p (range_with_len (w + 1) (n - (w + 1)))) miss) ∙ e

pub class_more : (p : ℕ → Bool) (w n : ℕ) (found next whole : List ℕ) (b : Bool) → w < n → p w ≡ b → next ≡ (if b then found ++ w ∷ [] else found)
    → found ++ filter p (range_with_len w (n - w)) ≡ whole → next ++ filter p (range_with_len (w + 1) (n - (w + 1))) ≡ whole
class_more p w n found next whole b lt is n_is e =
    ap (λ (l : List ℕ). l ++ filter p (range_with_len (w + 1) (n - (w + 1)))) n_is ∙ by b is ∙ ap (λ (l : List ℕ). found ++ filter p l) (sym (range_next w n lt)) ∙ e
  where
    by : (c : Bool) → p w ≡ c → (if c then found ++ w ∷ [] else found) ++ filter p (range_with_len (w + 1) (n - (w + 1))) ≡ found ++ filter p (w ∷ range_with_len (w + 1) (n - (w + 1)))
    by true i = append_assoc found (w ∷ []) (filter p (range_with_len (w + 1) (n - (w + 1)))) ∙ ap (λ d. found ++ (if d then w ∷ filter p (range_with_len (w + 1) (n - (w + 1))) else filter p (range_with_len (w + 1) (n - (w + 1))))) (sym i)
    by false i = ap (λ d. found ++ (if d then w ∷ filter p (range_with_len (w + 1) (n - (w + 1))) else filter p (range_with_len (w + 1) (n - (w + 1))))) (sym i)

pub classes_more : (same : ℕ → ℕ → Bool) (v n : ℕ) (found next whole : List (List ℕ)) (b : Bool) → v < n → (is_new same v && not (same v n)) ≡ b → next ≡ (if b then found ++ class_by same n v ∷ [] else found)
    → found ++ classes_from same n (range_with_len v (n - v)) ≡ whole → next ++ classes_from same n (range_with_len (v + 1) (n - (v + 1))) ≡ whole
classes_more same v n found next whole b lt is n_is e =
    let r : List ℕ = range_with_len (v + 1) (n - (v + 1)) in
    ap (λ (l : List (List ℕ)). l ++ classes_from same n (range_with_len (v + 1) (n - (v + 1)))) n_is ∙ by b
    ∙ ap (λ d. found ++ ((if d then class_by same n v ∷ [] else []) ++ classes_from same n (range_with_len (v + 1) (n - (v + 1))))) (sym is)
    ∙ ap (λ (l : List (List ℕ)). found ++ l) (sym (flat_map-cons (λ x. if is_new same x && not (same x n) then class_by same n x ∷ [] else []) v r))
    ∙ ap (λ (l : List ℕ). found ++ classes_from same n l) (sym (range_next v n lt)) ∙ e
  where
    by : (c : Bool) → (if c then found ++ class_by same n v ∷ [] else found) ++ classes_from same n (range_with_len (v + 1) (n - (v + 1))) ≡ found ++ ((if c then class_by same n v ∷ [] else []) ++ classes_from same n (range_with_len (v + 1) (n - (v + 1))))
    by true = append_assoc found (class_by same n v ∷ []) (classes_from same n (range_with_len (v + 1) (n - (v + 1))))
    by false = refl

-- one value more behind those of a range
pub map_last : {X : Type 0} (f : ℕ → X) (a n : ℕ) → map f (range_with_len a (suc n)) ≡ map f (range_with_len a n) ++ f (a + n) ∷ []
map_last f a zero = let e : a ≡ a + 0 = omega arith in ap (λ k. f k ∷ []) e
map_last f a (suc n) = let e : a + 1 + n ≡ a + suc n = omega arith in ap (λ l. f a ∷ l) (map_last f (a + 1) n ∙ ap (λ k. map f (range_with_len (a + 1) n) ++ f k ∷ []) e)
