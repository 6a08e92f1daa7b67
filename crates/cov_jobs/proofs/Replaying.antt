-- Evidence that is read may be judged.
use Rattle.std.proofs.Common.{◌≡◌, ◌≢◌, ◌<◌, ℕ, Bool, true, false, List, [], ◌∷◌, IsTrue, length, get_or, refl, sym, ◌∙◌, arith, length-append}
use Rattle.std.proofs.lemmas.Bool.{false≢true}
use Rattle.std.proofs.lemmas.List.Folds.{list_all_at}
use Rattle.cov_classes.proofs.Listing.{append_all}
use Rattle.cov_model.specs.declared.model.Lasso.{Lasso}
use Rattle.cov_model.specs.declared.model.Model.{Model}
use Rattle.cov_model.specs.States.{State, is_typed}
use Rattle.cov_claims.specs.Places.{places_of, states_of}
use Rattle.cov_evid.specs.Spelling.{are_typed}

settle : (m : Model) (ss : List State) (p : ℕ) (b : Bool) → IsTrue (are_typed m ss) → p < length ss → is_typed m (get_or ss p []) ≡ b → IsTrue b
settle m ss p true all there is = refl
settle m ss p false all there is = absurd (false≢true (sym (list_all_at (is_typed m) ss p [] there is) ∙ all))

-- each state of a typed lasso is typed
pub typed_lasso : (m : Model) (l : Lasso) → IsTrue (are_typed m l.stem) → IsTrue (are_typed m l.turn) → (p : ℕ) → p < places_of l
    → IsTrue (is_typed m (get_or (states_of l) p []))
typed_lasso m l stem turn p there =
    let whole = length-append l.stem l.turn in
    settle m (states_of l) p (is_typed m (get_or (states_of l) p [])) (append_all (is_typed m) l.stem l.turn stem turn) (omega arith) refl

-- a list that is not empty has an item
pub some_item : {A : Type 0} (xs : List A) → xs ≢ [] → 0 < length xs
some_item [] h = absurd (h refl)
some_item (x ∷ xs) h = omega arith
