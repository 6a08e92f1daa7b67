-- The image of a lasso under a map of states that keeps steps and fairness sets.
use Rattle.std.proofs.Common.{◌≡◌, ℕ, zero, suc, IsTrue, inl, inr, List, [], ◌∷◌, map, refl, sym, ap, ◌∙◌, subst}
use Rattle.std.specs.List.{AllByRecursion, list_any}
use Rattle.std.proofs.lemmas.Bool.{or_cases, or_left, or_right}
use Rattle.cov_logic.specs.Structure.{Structure}
use Rattle.cov_logic.specs.Lasso.{Lasso, first_of, Leads}
use Rattle.cov_logic.specs.Suffix.{at}
use Rattle.cov_logic.specs.FairLasso.{IsFairFrom}
use Rattle.cov_logic.specs.Sets.{Set}

-- each state is replaced by its image
abbrev pub image : {S R : Type 0} → (S → R) → Lasso S → Lasso R
image h l = record { stem = map h l.stem; first = h l.first; rest = map h l.rest }

at_parts : {S R : Type 0} (h : S → R) (i : ℕ) (stem : List S) (first : S) (rest : List S) →
    at (record { stem = map h stem; first = h first; rest = map h rest }) i ≡ h (at (record { stem = stem; first = first; rest = rest }) i)
at_parts h zero [] first rest = refl
at_parts h zero (s ∷ ss) first rest = refl
at_parts h (suc i) [] first rest = at_parts h i rest first rest
at_parts h (suc i) (s ∷ ss) first rest = at_parts h i ss first rest

-- the states of the image are the images of the states
pub at_image : {S R : Type 0} (h : S → R) (i : ℕ) (l : Lasso S) → at (image h l) i ≡ h (at l i)
at_image h i l = at_parts h i l.stem l.first l.rest

pub first_of-map : {S R : Type 0} (h : S → R) (path : List S) (after : S) → first_of (map h path) (h after) ≡ h (first_of path after)
first_of-map h [] after = refl
first_of-map h (s ∷ ss) after = refl

-- the fairness sets are kept, one by one, at the states with V
abbrev pub FairKept : {S R : Type 0} → (S → Type 0) → (S → R) → List (Set S) → List (Set R) → Type 0
FairKept V h [] [] = Unit {0}
FairKept V h [] (g ∷ gs) = ⊥
FairKept V h (f ∷ fs) [] = ⊥
FairKept {S} V h (f ∷ fs) (g ∷ gs) = ((s : S) → V s → IsTrue (f s) → IsTrue (g (h s))) × FairKept V h fs gs

module _ {S R : Type 0} (m : Structure S) (k : Structure R) (h : S → R) (V : S → Type 0) (source : (s t : S) → IsTrue (m.step s t) → V s)
    (step : (s t : S) → V s → V t → IsTrue (m.step s t) → IsTrue (k.step (h s) (h t))) where
  -- the first state of a path has V
  pub first_has : (path : List S) (after : S) → V after → Leads m path after → V (first_of path after)
  first_has [] after v leads = v
  first_has (s ∷ ss) after v leads = source s (first_of ss after) leads.0

  -- and so has each of its states
  pub all_have : (path : List S) (after : S) → Leads m path after → AllByRecursion V path
  all_have [] after leads = tt
  all_have (s ∷ ss) after leads = (source s (first_of ss after) leads.0, all_have ss after leads.1)

  pub leads_image : (path : List S) (after : S) → V after → Leads m path after → Leads k (map h path) (h after)
  leads_image [] after v leads = tt
  leads_image (s ∷ ss) after v leads = (
    subst (λ t. IsTrue (k.step (h s) t)) (sym (first_of-map h ss after))
        (step s (first_of ss after) (source s (first_of ss after) leads.0) (first_has ss after v leads.1) leads.0),
    leads_image ss after v leads.1,
  )

  visited : (f : Set S) (g : Set R) → ((s : S) → V s → IsTrue (f s) → IsTrue (g (h s))) → (turn : List S) → AllByRecursion V turn →
      IsTrue (list_any f turn) → IsTrue (list_any g (map h turn))
  visited f g keeps [] v e = cc
  visited f g keeps (s ∷ ss) v e =
      elim (or_cases (f s) (list_any f ss) e) [
        | inl a ↦ or_left (g (h s)) (list_any g (map h ss)) (keeps s v.0 a)
        | inr b ↦ or_right (g (h s)) (list_any g (map h ss)) (visited f g keeps ss v.1 b)
      ]

  all_visited : (turn : List S) → AllByRecursion V turn → (fs : List (Set S)) (gs : List (Set R)) → FairKept V h fs gs →
      AllByRecursion (λ f. IsTrue (list_any f turn)) fs → AllByRecursion (λ g. IsTrue (list_any g (map h turn))) gs
  all_visited turn v [] [] kept e = tt
  all_visited turn v [] (g ∷ gs) kept e = absurd kept
  all_visited turn v (f ∷ fs) [] kept e = absurd kept
  all_visited turn v (f ∷ fs) (g ∷ gs) kept e = (visited f g kept.0 turn v e.0, all_visited turn v fs gs kept.1 e.1)

  -- the image of a fair lasso is a fair lasso
  pub fair_image : FairKept V h m.fair k.fair → (s : S) (l : Lasso S) → IsFairFrom m s l → IsFairFrom k (h s) (image h l)
  fair_image kept s l fair =
      let first : V l.first = first_has (l.first ∷ l.rest) l.first (source l.first (first_of l.rest l.first) fair.fair.turn.0) fair.fair.turn in
      record {
        starts = at_image h 0 l ∙ ap h fair.starts;
        fair = record {
          stem = leads_image l.stem l.first first fair.fair.stem;
          turn = leads_image (l.first ∷ l.rest) l.first first fair.fair.turn;
          visits = all_visited (l.first ∷ l.rest) (all_have (l.first ∷ l.rest) l.first fair.fair.turn) m.fair k.fair kept fair.fair.visits;
        };
      }
