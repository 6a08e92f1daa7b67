-- The states of a lasso by their places, and the atoms there.
use Rattle.std.proofs.Common.{◌≡◌, ◌≢◌, set, below_more, get_or-set_other, get_or-set_same, ℕ, zero, suc, ◌+◌, ◌<◌, ◌↔◌, Bool, true, false, not, IsTrue, List, [], ◌∷◌, ◌++◌, length, get_or, Some, None, slice_get, if◌then◌else◌, refl, sym, ap, ◌∙◌, subst, arith}
use Rattle.std.specs.Str.{bytes_eq}
use Rattle.std.proofs.lemmas.Bool.{not-true, not_from_false}
use Rattle.std.proofs.lemmas.Option.{get_or_from_slice_get}
use Rattle.cov_syntax.specs.declared.tree.Expr.{Expr}
use Rattle.cov_logic.specs.Formula.{Atom}
use Rattle.cov_logic.specs.Suffix.{at, suffix}
use Rattle.cov_model.specs.declared.model.Model.{Model}
use Rattle.cov_model.specs.declared.model.Lasso.{Lasso}
use Rattle.cov_model.specs.declared.model.Signal.{Signal}
use Rattle.cov_model.specs.States.{State, holds, is_typed}
use Rattle.cov_claims.specs.declared.evidence.Claim.{Claim}
use Rattle.cov_claims.specs.declared.evidence.Claim.TheVariants.{Mutant, Occurrence}
use Rattle.cov_claims.specs.Claims.{claim_labelling}
use Rattle.cov_replay.specs.Flips.{flip_at}
use Rattle.cov_claims.specs.Places.{turned, lasso_of, states_of, places_of}
use Rattle.cov_replay.specs.Ready.{IsPlain}
use Rattle.cov_replay.specs.Told.{Tells, HasPlaces}

at_list : {S : Type 0} (xs : List S) (first : S) (rest : List S) (p : ℕ) (s : S) → slice_get xs p ≡ Some s
    → at (record { stem = xs; first = first; rest = rest }) p ≡ s
at_list [] first rest p s h = cc
at_list (x ∷ xs) first rest zero s h = cc
at_list (x ∷ xs) first rest (suc p) s h = at_list xs first rest p s h

at_states : {S : Type 0} (stem : List S) (first : S) (rest : List S) (p : ℕ) (s : S) → slice_get (stem ++ first ∷ rest) p ≡ Some s
    → at (record { stem = stem; first = first; rest = rest }) p ≡ s
at_states [] first rest zero s h = cc
at_states [] first rest (suc p) s h = at_list rest first rest p s h
at_states (x ∷ stem) first rest zero s h = cc
at_states (x ∷ stem) first rest (suc p) s h = at_states stem first rest p s h

at_turned : (stem turn : List State) (p : ℕ) (s : State) → 0 < length turn → slice_get (stem ++ turn) p ≡ Some s → at (turned stem turn) p ≡ s
at_turned stem [] p s c h = absurd (omega arith)
at_turned stem (first ∷ rest) p s c h = at_states stem first rest p s h

-- the state that is listed at a place is the one of the lasso there
pub at_place : (l : Lasso) (p : ℕ) (s : State) → 0 < length l.turn → slice_get (states_of l) p ≡ Some s → at (lasso_of l) p ≡ s
at_place l p s c h = at_turned l.stem l.turn p s c h

turned_places : (stem turn : List State) → 0 < length turn → HasPlaces (turned stem turn) (length stem + length turn) (length stem)
turned_places stem [] c = absurd (omega arith)
turned_places stem (first ∷ rest) c = record { stem = refl; whole = refl }

pub has_places : (l : Lasso) → 0 < length l.turn → HasPlaces (lasso_of l) (places_of l) (length l.stem)
has_places l c = turned_places l.stem l.turn c

pub typed_at : (m : Model) (l : Lasso) (p : ℕ) (s : State) → IsPlain m l → p < places_of l → slice_get (states_of l) p ≡ Some s → IsTrue (is_typed m s)
typed_at m l p s h c e = subst (λ t. IsTrue (is_typed m t)) (get_or_from_slice_get (states_of l) p s [] e) (h.typed p c)

flipped : (m : Model) (x : Expr) (s : State) (q : Signal) (t : Bool) → (if t then holds m x s (Some q) else holds m x s None) ≡ holds m x s (if t then Some q else None)
flipped m x s q true = refl
flipped m x s q false = refl

labelled : (m : Model) (claim : Claim) (s : State) (x : Expr) → claim_labelling m claim s x ≡ holds m x s (flip_at claim s)
labelled m (Mutant q w) s x = flipped m x s q (bytes_eq w s)
labelled m (Occurrence n) s x = refl

-- an atom is told by its truth at the place
pub atom_told : (m : Model) (claim : Claim) (l : Lasso) (p : ℕ) (s : State) (x : Expr) (truth shown b : Bool) → 0 < length l.turn
    → slice_get (states_of l) p ≡ Some s → truth ≡ holds m x s (flip_at claim s) → b ≡ (if shown then truth else not truth)
    → IsTrue b ↔ Tells (claim_labelling m claim) shown (Atom x) (suffix p (lasso_of l))
atom_told m claim l p s x truth true b c h t e =
    let is : b ≡ claim_labelling m claim (at (lasso_of l) p) x =
    e ∙ t ∙ sym (labelled m claim s x) ∙ ap (λ z. claim_labelling m claim z x) (sym (at_place l p s c h)) in
    (λ y. sym is ∙ y, λ y. is ∙ y)
atom_told m claim l p s x truth false b c h t e =
    let is : truth ≡ claim_labelling m claim (at (lasso_of l) p) x =
    t ∙ sym (labelled m claim s x) ∙ ap (λ z. claim_labelling m claim z x) (sym (at_place l p s c h)) in
    (λ y. sym is ∙ not-true truth (sym e ∙ y), λ y. e ∙ not_from_false truth (is ∙ y))

-- one more answer
pub put_more : (P : ℕ → Type 0) (xs : List Bool) (p : ℕ) (b : Bool) → p < length xs → ((k : ℕ) → k < p → IsTrue (get_or xs k false) ↔ P k)
    → IsTrue b ↔ P p → (k : ℕ) → k < p + 1 → IsTrue (get_or (set xs p b) k false) ↔ P k
put_more P xs p b c before here =
    below_more _ _
    (λ k h. let ne : k ≢ p = omega arith in
    let same : get_or (set xs p b) k false ≡ get_or xs k false = rw get_or-set_other refl in
    subst (λ (t : Bool). IsTrue t ↔ P k) (sym same) (before k h))
    (let same : get_or (set xs p b) p false ≡ b = rw get_or-set_same refl in
    subst (λ (t : Bool). IsTrue t ↔ P p) (sym same) here)
