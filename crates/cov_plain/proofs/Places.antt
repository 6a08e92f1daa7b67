-- What holds at each place of a list.
use Rattle.std.proofs.Common.{ℕ, zero, suc, ◌+◌, ◌<◌, ◌≡◌, IsTrue, List, ◌∷◌, [], length, get_or, slice_index_or, refl, sym, subst, arith}
use Rattle.std.specs.List.{AllByRecursion}
use Rattle.cov_logic.specs.Structure.{Structure}
use Rattle.cov_logic.specs.Lasso.{first_of, Leads}

-- what holds at each place holds of each element
pub all_from_places : {X : Type 0} (P : X → Type 0) (d : X) (xs : List X) → ((j : ℕ) → j < length xs → P (slice_index_or xs j d)) → AllByRecursion P xs
all_from_places P d [] h = tt
all_from_places P d (x ∷ xs) h = (h 0 (omega arith), all_from_places P d xs (λ j c. h (suc j) (omega arith)))

-- and back
pub places_from_all : {X : Type 0} (P : X → Type 0) (d : X) (xs : List X) → AllByRecursion P xs → (j : ℕ) → j < length xs → P (slice_index_or xs j d)
places_from_all P d [] h j c = absurd (omega arith)
places_from_all P d (x ∷ xs) h zero c = h.0
places_from_all P d (x ∷ xs) h (suc j) c = places_from_all P d xs h.1 j (omega arith)

module _ (m : Structure ℕ) where
  -- the first state of a path
  first_place : (xs : List ℕ) (after : ℕ) → first_of xs after ≡ get_or xs 0 after
  first_place [] after = refl
  first_place (x ∷ xs) after = refl

  -- a path steps from each place to the next
  abbrev pub StepsAt : List ℕ → ℕ → ℕ → Type 0
  StepsAt xs after k = IsTrue (m.step (get_or xs k 0) (get_or xs (k + 1) after))

  pub leads_from_places : (xs : List ℕ) (after : ℕ) → ((k : ℕ) → k < length xs → StepsAt xs after k) → Leads m xs after
  leads_from_places [] after h = tt
  leads_from_places (x ∷ xs) after h = (
    subst (λ t. IsTrue (m.step x t)) (sym (first_place xs after)) (h 0 (omega arith)),
    leads_from_places xs after
        (λ k c. let e : suc k + 1 ≡ suc (k + 1) = omega arith in subst (λ i. IsTrue (m.step (get_or xs k 0) (get_or (x ∷ xs) i after))) e (h (suc k) (omega arith))),
  )

  pub places_from_leads : (xs : List ℕ) (after : ℕ) → Leads m xs after → (k : ℕ) → k < length xs → StepsAt xs after k
  places_from_leads [] after h k c = absurd (omega arith)
  places_from_leads (x ∷ xs) after h zero c = subst (λ t. IsTrue (m.step x t)) (first_place xs after) h.0
  places_from_leads (x ∷ xs) after h (suc k) c =
      let e : suc (k + 1) ≡ suc k + 1 = omega arith in
      subst (λ i. IsTrue (m.step (get_or xs k 0) (get_or (x ∷ xs) i after))) e (places_from_leads xs after h.1 k (omega arith))
