use Rattle.std.proofs.Common.{◌≡◌, ℕ, zero, suc, ◌++◌, List, [], ◌∷◌, Bool, true, false, length, map, take, drop, get_or, refl, sym, ◌∙◌, ap, arith, length-append}
use Rattle.std.proofs.lemmas.List.{map-append, length-map, take_at, drop_at}
use Rattle.cov_dd.specs.Need.{rows, values}

map-map : {X Y Z : Type 0} (f : Y → Z) (g : X → Y) (xs : List X) → map f (map g xs) ≡ map (λ x. f (g x)) xs
map-map f g [] = refl
map-map f g (x ∷ xs) = ap (λ ys. f (g x) ∷ ys) (map-map f g xs)

-- the values where the first bit is clear, and then those where it is set
pub values_split : (n : ℕ) (f : List Bool → Bool) → values (suc n) f ≡ values n (λ r. f (false ∷ r)) ++ values n (λ r. f (true ∷ r))
unfolding values
values_split n f =
    map-append f (map (λ r. false ∷ r) (rows n)) (map (λ r. true ∷ r) (rows n))
    ∙ ap (λ x. x ++ map f (map (λ r. true ∷ r) (rows n))) (map-map f (λ r. false ∷ r) (rows n))
    ∙ ap (λ x. map (λ r. f (false ∷ r)) (rows n) ++ x) (map-map f (λ r. true ∷ r) (rows n))

pub length-values : (n : ℕ) (f g : List Bool → Bool) → length (values n f) ≡ length (values n g)
unfolding values
length-values n f g = length-map (rows n) f ∙ sym (length-map (rows n) g)

-- two lists of equal fronts
pub parts_same : {X : Type 0} (a b c d : List X) → length a ≡ length c → a ++ b ≡ c ++ d → (a ≡ c) × (b ≡ d)
parts_same a b c d len e = (
  sym (take_at a b (length a) refl) ∙ ap (take (length a)) e ∙ take_at c d (length a) (sym len),
  sym (drop_at a b (length a) refl) ∙ ap (drop (length a)) e ∙ drop_at c d (length a) (sym len),
)

-- functions that agree on each row have one list of values
pub values_same : (n : ℕ) (f g : List Bool → Bool) → ((r : List Bool) → length r ≡ n → f r ≡ g r) → values n f ≡ values n g
unfolding values
values_same zero f g same = ap (λ b. b ∷ []) (same [] refl)
values_same (suc n) f g same =
    values_split n f
    ∙ ap (λ x. x ++ values n (λ r. f (true ∷ r))) (values_same n (λ r. f (false ∷ r)) (λ r. g (false ∷ r)) (λ r len. same (false ∷ r) (omega arith)))
    ∙ ap (λ x. values n (λ r. g (false ∷ r)) ++ x) (values_same n (λ r. f (true ∷ r)) (λ r. g (true ∷ r)) (λ r len. same (true ∷ r) (omega arith)))
    ∙ sym (values_split n g)

-- and the other way round
pub values_at : (n : ℕ) (f g : List Bool → Bool) → values n f ≡ values n g → (r : List Bool) → length r ≡ n → f r ≡ g r
unfolding values
values_at zero f g same [] len = ap (λ x. get_or x 0 false) same
values_at zero f g same (b ∷ r) len = absurd (omega arith)
values_at (suc n) f g same [] len = absurd (omega arith)
values_at (suc n) f g same (false ∷ r) len =
    let both = parts_same _ _ _ _ (length-values n (λ r. f (false ∷ r)) (λ r. g (false ∷ r))) (sym (values_split n f) ∙ same ∙ values_split n g) in
    values_at n (λ r. f (false ∷ r)) (λ r. g (false ∷ r)) both.0 r (omega arith)
values_at (suc n) f g same (true ∷ r) len =
    let both = parts_same _ _ _ _ (length-values n (λ r. f (false ∷ r)) (λ r. g (false ∷ r))) (sym (values_split n f) ∙ same ∙ values_split n g) in
    values_at n (λ r. f (true ∷ r)) (λ r. g (true ∷ r)) both.1 r (omega arith)

-- where both halves are one list, the first bit does not matter
pub halves_same : (n : ℕ) (f : List Bool → Bool) (half : List Bool) → values (suc n) f ≡ half ++ half → (r : List Bool) → length r ≡ n → f (false ∷ r) ≡ f (true ∷ r)
halves_same n f half e r len' =
    let split : values n (λ r. f (false ∷ r)) ++ values n (λ r. f (true ∷ r)) ≡ half ++ half = sym (values_split n f) ∙ e in
    let same : length (values n (λ r. f (false ∷ r))) ≡ length (values n (λ r. f (true ∷ r))) = length-values n _ _ in
    let whole : length (values n (λ r. f (false ∷ r)) ++ values n (λ r. f (true ∷ r))) ≡ length (half ++ half) = ap length split in
    let len : length (values n (λ r. f (false ∷ r))) ≡ length half = omega (arith, length-append (values n (λ r. f (false ∷ r))) (values n (λ r. f (true ∷ r))), length-append half half) in
    let both = parts_same _ _ _ _ len split in
    values_at n (λ r. f (false ∷ r)) (λ r. f (true ∷ r)) (both.0 ∙ sym both.1) r len'
