-- The states of a run are a fair lasso of the model.
use Rattle.std.proofs.Common.{◌≡◌, ℕ, zero, suc, ◌+◌, ◌-◌, ◌<◌, Bool, false, IsTrue, List, [], ◌∷◌, ◌++◌, length, get_or, map, None, slice_get, refl, sym, ap, ◌∙◌, subst, arith, length-append}
use Rattle.std.specs.List.{AllByRecursion, list_any}
use Rattle.std.specs.Option.{option_map_or}
use Rattle.std.proofs.lemmas.Bool.{or_left, or_right}
use Rattle.std.proofs.lemmas.Option.{slice_get-get_or}
use Rattle.cov_syntax.specs.declared.tree.Expr.{Expr}
use Rattle.cov_logic.specs.Structure.{Structure}
use Rattle.cov_logic.specs.Lasso.{first_of, Leads}
use Rattle.cov_logic.specs.Suffix.{at}
use Rattle.cov_logic.specs.FairLasso.{IsFair}
use Rattle.cov_model.specs.declared.model.Model.{Model}
use Rattle.cov_model.specs.declared.model.Lasso.{Lasso}
use Rattle.cov_model.specs.Paths.{structure}
use Rattle.cov_model.specs.States.{State, holds}
use Rattle.cov_claims.specs.Places.{turned, lasso_of, states_of}
use Rattle.cov_claims.specs.Valid.{IsRun, state_at}
use Rattle.cov_replay.proofs.AtPlaces.{at_place}

module _ {S : Type 0} (m : Structure S) (d : S) where
  first_is : (xs : List S) (t : S) (ts : List S) → get_or (xs ++ t ∷ ts) 0 d ≡ first_of xs t
  first_is [] t ts = refl
  first_is (x ∷ xs) t ts = refl

  -- each state before one steps to the next
  leads_to : (xs : List S) (t : S) (ts : List S)
      → ((p : ℕ) → p < length xs → IsTrue (m.step (get_or (xs ++ t ∷ ts) p d) (get_or (xs ++ t ∷ ts) (suc p) d))) → Leads m xs t
  leads_to [] t ts steps = tt
  leads_to (x ∷ xs) t ts steps = (
    subst (λ z. IsTrue (m.step x z)) (first_is xs t ts) (steps 0 (omega arith)),
    leads_to xs t ts (λ p c. steps (suc p) (omega arith)),
  )

  -- each state of a list steps to the next, and the last to one after it
  leads_round : (x : S) (xs : List S) (after : S) → ((p : ℕ) → p < length xs → IsTrue (m.step (get_or (x ∷ xs) p d) (get_or (x ∷ xs) (suc p) d)))
      → IsTrue (m.step (get_or (x ∷ xs) (length xs) d) after) → Leads m (x ∷ xs) after
  leads_round x [] after steps last = (last, tt)
  leads_round x (y ∷ ys) after steps last = (steps 0 (omega arith), leads_round y ys after (λ p c. steps (suc p) (omega arith)) last)

  behind_stem : (xs ys : List S) (p : ℕ) → get_or (xs ++ ys) (length xs + p) d ≡ get_or ys p d
  behind_stem [] ys p = let e : 0 + p ≡ p = omega arith in ap (λ i. get_or ys i d) e
  behind_stem (x ∷ xs) ys p =
      let e : suc (length xs) + p ≡ suc (length xs + p) = omega arith in
      ap (λ i. get_or (x ∷ xs ++ ys) i d) e ∙ behind_stem xs ys p

  any_at : (f : S → Bool) (xs : List S) (j : ℕ) → j < length xs → IsTrue (f (get_or xs j d)) → IsTrue (list_any f xs)
  any_at f [] j c h = absurd (omega arith)
  any_at f (x ∷ xs) zero c h = or_left (f x) (list_any f xs) h
  any_at f (x ∷ xs) (suc j) c h = or_right (f x) (list_any f xs) (any_at f xs j (omega arith) h)

all_visited : (m : Model) (turn : List State) (es : List Expr)
    → ((k : ℕ) → k < length es → (j : ℕ) × (j < length turn) × IsTrue (option_map_or (λ e. holds m e (get_or turn j []) None) (slice_get es k) false))
    → AllByRecursion (λ f. IsTrue (list_any f turn)) (map (λ e s. holds m e s None) es)
all_visited m turn [] v = tt
all_visited m turn (e ∷ es) v =
    let h = v 0 (omega arith) in
    (any_at (structure m) [] (λ s. holds m e s None) turn h.0 h.1 h.2, all_visited m turn es (λ k c. v (suc k) (omega arith)))

fair_turned : (m : Model) (stem : List State) (first : State) (rest : List State) → IsRun m (record { stem = stem; turn = first ∷ rest })
    → IsFair (structure m) (record { stem = stem; first = first; rest = rest })
fair_turned m stem first rest run =
    let s : Structure State = structure m in
    let all : List State = stem ++ first ∷ rest in
    let n : ℕ = length stem in
    let zero_more : n + 0 ≡ n = omega arith in
    let last : n + suc (length rest) - 1 ≡ n + length rest = omega arith in
    record {
      stem = leads_to s [] stem first rest (λ p c. run.steps p (omega arith));
      turn = leads_round s [] first rest first
          (λ p c.
          let after : suc (n + p) ≡ n + suc p = omega arith in
          subst (λ z. IsTrue (s.step z (get_or (first ∷ rest) (suc p) []))) (behind_stem s [] stem (first ∷ rest) p)
          (subst (λ z. IsTrue (s.step (get_or all (n + p) []) z)) (ap (λ i. get_or all i []) after ∙ behind_stem s [] stem (first ∷ rest) (suc p))
          (run.steps (n + p) (omega arith))))
          (subst (λ z. IsTrue (s.step z first)) (ap (λ i. get_or all i []) last ∙ behind_stem s [] stem (first ∷ rest) (length rest))
          (subst (λ z. IsTrue (s.step (get_or all (n + suc (length rest) - 1) []) z)) (ap (λ i. get_or all i []) (sym zero_more) ∙ behind_stem s [] stem (first ∷ rest) 0)
          run.closes));
      visits = all_visited m (first ∷ rest) m.fair run.fair;
    }

fair_of : (m : Model) (stem turn : List State) → 0 < length turn → IsRun m (record { stem = stem; turn = turn }) → IsFair (structure m) (turned stem turn)
fair_of m stem [] c run = absurd (omega arith)
fair_of m stem (first ∷ rest) c run = fair_turned m stem first rest run

-- the states are a fair lasso
pub run_fair : (m : Model) (l : Lasso) → 0 < length l.turn → IsRun m l → IsFair (structure m) (lasso_of l)
run_fair m l c run = fair_of m l.stem l.turn c run

-- from an initial state
pub run_initial : (m : Model) (l : Lasso) → 0 < length l.turn → IsRun m l → IsTrue ((structure m).initial (at (lasso_of l) 0))
run_initial m l c run =
    let some : 0 < length (states_of l) = omega (arith, length-append l.stem l.turn) in
    subst (λ s. IsTrue ((structure m).initial s)) (sym (at_place l 0 (state_at l 0) c (slice_get-get_or (states_of l) 0 [] some))) run.initial
