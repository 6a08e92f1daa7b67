-- Facts at each place of two lists, one behind the other.
use Rattle.std.proofs.Common.{◌≡◌, ◌≢◌, ℕ, ◌<◌, ◌-◌, List, ◌++◌, length, get_or, sym, ◌∙◌, subst, arith, length-append, inl, inr}
use Rattle.std.proofs.lemmas.Bool.{cases_lt}
use Rattle.std.proofs.lemmas.List.{get_or_append_left, get_or-append_right}

pub at_append : {X : Type 0} (d : X) (P : X → Type 0) (xs ys : List X) → ((i : ℕ) → i < length xs → P (get_or xs i d)) → ((i : ℕ) → i < length ys → P (get_or ys i d)) → (i : ℕ) → i < length (xs ++ ys) → P (get_or (xs ++ ys) i d)
at_append {X} d P xs ys p q i lt =
    elim (cases_lt i (length xs)) [
      | inl below ↦ subst P (sym (get_or_append_left xs ys d i below)) (p i below)
      | inr le ↦ subst P (sym (get_or-append_right xs ys (length xs) i d refl' le)) (q (i - length xs) (omega (arith, length-append xs ys)))
    ]
  where
    refl' : length xs ≡ length xs
    refl' = omega arith

pub distinct_append : {X : Type 0} (d : X) (xs ys : List X) → ((i j : ℕ) → i < length xs → j < length xs → get_or xs i d ≡ get_or xs j d → i ≡ j) → ((i j : ℕ) → i < length ys → j < length ys → get_or ys i d ≡ get_or ys j d → i ≡ j)
    → ((i j : ℕ) → i < length xs → j < length ys → get_or xs i d ≢ get_or ys j d) → (i j : ℕ) → i < length (xs ++ ys) → j < length (xs ++ ys) → get_or (xs ++ ys) i d ≡ get_or (xs ++ ys) j d → i ≡ j
distinct_append d xs ys p q apart i j li lj e =
    let same : length xs ≡ length xs = omega arith in
    elim (cases_lt i (length xs)) [
      | inl bi ↦ elim (cases_lt j (length xs)) [
        | inl bj ↦ p i j bi bj (sym (get_or_append_left xs ys d i bi) ∙ e ∙ get_or_append_left xs ys d j bj)
        | inr aj ↦ absurd (apart i (j - length xs) bi (omega (arith, length-append xs ys)) (sym (get_or_append_left xs ys d i bi) ∙ e ∙ get_or-append_right xs ys (length xs) j d same aj))
      ]
      | inr ai ↦ elim (cases_lt j (length xs)) [
        | inl bj ↦ absurd (apart j (i - length xs) bj (omega (arith, length-append xs ys)) (sym (get_or_append_left xs ys d j bj) ∙ sym e ∙ get_or-append_right xs ys (length xs) i d same ai))
        | inr aj ↦ let k : i - length xs ≡ j - length xs = q (i - length xs) (j - length xs) (omega (arith, length-append xs ys)) (omega (arith, length-append xs ys)) (sym (get_or-append_right xs ys (length xs) i d same ai) ∙ e ∙ get_or-append_right xs ys (length xs) j d same aj) in omega arith
      ]
    ]
