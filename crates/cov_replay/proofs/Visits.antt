-- The states of the turn among all states, and which FAIRNESS expressions they meet.
use Rattle.std.proofs.Common.{◌≡◌, ℕ, suc, ◌+◌, ◌-◌, ◌<◌, ◌≤◌, Bool, true, false, IsTrue, List, [], ◌∷◌, ◌++◌, length, get_or, Some, slice_get, sym, ap, ◌∙◌, subst, arith}
use Rattle.std.proofs.lemmas.Bool.{false≢true}
use Rattle.std.proofs.lemmas.Option.{get_or_from_slice_get}
use Rattle.cov_model.specs.declared.model.Model.{Model}
use Rattle.cov_model.specs.declared.model.Lasso.{Lasso}
use Rattle.cov_model.specs.States.{State, is_fair_at}
use Rattle.cov_claims.specs.Places.{states_of, places_of}
use Rattle.cov_claims.specs.Valid.{IsVisited}

turn_state : (stem turn : List State) (j : ℕ) (s : State) → slice_get (stem ++ turn) (length stem + j) ≡ Some s → slice_get turn j ≡ Some s
turn_state [] turn j s h = let e : 0 + j ≡ j = omega arith in subst (λ i. slice_get turn i ≡ Some s) e h
turn_state (x ∷ stem) turn j s h =
    let e : suc (length stem) + j ≡ suc (length stem + j) = omega arith in
    turn_state stem turn j s (subst (λ i. slice_get (x ∷ stem ++ turn) i ≡ Some s) e h)

-- the state at a place of the turn
pub turn_is : (l : Lasso) (p j : ℕ) (s : State) → length l.stem + j ≡ p → slice_get (states_of l) p ≡ Some s → get_or l.turn j [] ≡ s
turn_is l p j s e h = get_or_from_slice_get l.turn j s [] (turn_state l.stem l.turn j s (subst (λ i. slice_get (states_of l) i ≡ Some s) (sym e) h))

pub visited_here : (m : Model) (l : Lasso) (k p : ℕ) (s : State) (b : Bool) → length l.stem ≤ p → p < places_of l → slice_get (states_of l) p ≡ Some s
    → b ≡ is_fair_at m k s → b ≡ true → IsVisited m l k
visited_here m l k p s b low high h e t =
    let j : ℕ = p - length l.stem in
    let is : length l.stem + j ≡ p = omega arith in
    (j, omega arith, ap (is_fair_at m k) (turn_is l p j s is h) ∙ sym e ∙ t)

pub not_visited_here : (m : Model) (l : Lasso) (k p j : ℕ) (s : State) (b : Bool) → length l.stem + j ≡ p → slice_get (states_of l) p ≡ Some s
    → b ≡ is_fair_at m k s → b ≡ false → IsTrue (is_fair_at m k (get_or l.turn j [])) → ⊥
not_visited_here m l k p j s b is h e f t = false≢true (sym f ∙ e ∙ ap (is_fair_at m k) (sym (turn_is l p j s is h)) ∙ t)
