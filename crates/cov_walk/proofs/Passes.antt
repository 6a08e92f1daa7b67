-- Tests of two lists, place by place.
use Rattle.std.proofs.Common.{◌≡◌, ℕ, suc, Bool, true, false, ◌&&◌, List, [], ◌∷◌, map, length, refl, ap}
use Rattle.std.specs.Prelude.{◌==◌}
use Rattle.cov_model.specs.Trees.{all_pass, same_path}

and_false : (b c : Bool) → false ≡ c → false ≡ (b && c)
and_false true c e = e
and_false false c e = refl

-- lists of different lengths do not pass
pub lengths : {A : Type 0} (t : A → A → Bool) (xs ys : List A) → ¬ (length xs ≡ length ys) → false ≡ all_pass (map t xs) ys
lengths t [] [] h = absurd (h refl)
lengths t [] (y ∷ ys) h = refl
lengths t (x ∷ xs) [] h = refl
lengths t (x ∷ xs) (y ∷ ys) h = and_false (t x y) _ (lengths t xs ys (λ e. h (ap (λ k. suc k) e)))

-- paths of different lengths are not the same
pub path_lengths : (p q : List ℕ) → ¬ (length p ≡ length q) → false ≡ same_path p q
path_lengths [] [] h = absurd (h refl)
path_lengths [] (j ∷ q) h = refl
path_lengths (i ∷ p) [] h = refl
path_lengths (i ∷ p) (j ∷ q) h = and_false (i == j) _ (path_lengths p q (λ e. h (ap (λ k. suc k) e)))
