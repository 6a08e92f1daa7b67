-- The structure of a model is finite.
use Rattle.std.proofs.Common.{ℕ, zero, suc, ◌<◌, ◌==◌, Bool, ◌&&◌, IsTrue, inl, inr, List, [], ◌∷◌, map, length, refl, ap, subst, arith, eq-eqb}
use Rattle.std.specs.List.{list_any, flat_map}
use Rattle.std.specs.Str.{bytes_eq}
use Rattle.std.proofs.lemmas.Bool.{and_parts, or_cases, or_left, or_right, ltb-true, eqb-true, cases_eq}
use Rattle.std.proofs.lemmas.Slice.Eq.{bytes_eq-Decides}
use Rattle.cov_logic.specs.Finite.{IsFinite}
use Rattle.cov_logic.proofs.Decisions.{failure_law}
use Rattle.cov_model.specs.declared.model.Model.{Model}
use Rattle.cov_model.specs.declared.model.Var.{Var}
use Rattle.cov_model.specs.Paths.{structure}
use Rattle.cov_model.specs.States.{State, fits, is_typed, is_state, is_step, all_true}
use Rattle.cov_model.proofs.Joins.{any_left, any_right}
use Rattle.cov_laws.specs.States.{numbers_below, typed_states, ModelsAreFinite}
use Rattle.cov_laws.proofs.Covering.{conjunction_law}

found_below : (i n : ℕ) → i < n → IsTrue (list_any (λ j. i == j) (numbers_below n))
found_below i zero h = absurd (omega arith)
found_below i (suc n) h =
    elim (cases_eq i n) [
      | inl e ↦ or_left (i == n) (list_any (λ j. i == j) (numbers_below n)) (eq-eqb i n e)
      | inr d ↦ or_right (i == n) (list_any (λ j. i == j) (numbers_below n)) (found_below i n (omega arith))
    ]

found_flat : (p : State → Bool) (f : ℕ → List State) (i : ℕ) (is : List ℕ) → IsTrue (list_any (λ j. i == j) is) → IsTrue (list_any p (f i)) →
    IsTrue (list_any p (flat_map f is))
found_flat p f i [] h k = cc
found_flat p f i (j ∷ js) h k =
    elim (or_cases (i == j) (list_any (λ j. i == j) js) h) [
      | inl e ↦ any_left p (f j) (flat_map f js) (subst (λ n. IsTrue (list_any p (f n))) (eqb-true i j e) k)
      | inr d ↦ any_right p (f j) (flat_map f js) (found_flat p f i js d k)
    ]

found_headed : (i : ℕ) (s : State) (ts : List State) → IsTrue (list_any (bytes_eq s) ts) → IsTrue (list_any (bytes_eq (i ∷ s)) (map (λ t. i ∷ t) ts))
found_headed i s [] h = cc
found_headed i s (t ∷ ts) h =
    elim (or_cases (bytes_eq s t) (list_any (bytes_eq s) ts) h) [
      | inl e ↦
          or_left (bytes_eq (i ∷ s) (i ∷ t)) (list_any (bytes_eq (i ∷ s)) (map (λ t. i ∷ t) ts))
          ((bytes_eq-Decides (i ∷ s) (i ∷ t)).1 (ap (λ (z : State). i ∷ z) ((bytes_eq-Decides s t).0 e)))
      | inr d ↦ or_right (bytes_eq (i ∷ s) (i ∷ t)) (list_any (bytes_eq (i ∷ s)) (map (λ t. i ∷ t) ts)) (found_headed i s ts d)
    ]

-- a typed state is in the list
pub is_found : (xs : List Var) (s : State) → IsTrue (fits xs s) → IsTrue (list_any (bytes_eq s) (typed_states xs))
is_found [] [] h = refl
is_found [] (i ∷ s) h = cc
is_found (x ∷ xs) [] h = cc
is_found (x ∷ xs) (i ∷ s) h =
    let p = and_parts _ (fits xs s) h in
    found_flat (bytes_eq (i ∷ s)) (λ i. map (λ s. i ∷ s) (typed_states xs)) i (numbers_below (length x.values))
    (found_below i (length x.values) (ltb-true i (length x.values) p.0)) (found_headed i s (typed_states xs) (is_found xs s p.1))

state_typed : (m : Model) (s : State) → IsTrue (is_state m s) → IsTrue (is_typed m s)
state_typed m s h = (and_parts (is_typed m s) _ (and_parts (is_typed m s && all_true m.invars _) _ h).0).0

pub is_finite : (m : Model) → IsFinite (structure m) bytes_eq (typed_states m.vars)
is_finite m = record {
  same_is = λ s t. bytes_eq-Decides s t;
  from = λ s t h. is_found m.vars s (state_typed m s (ends s t h).0);
  to = λ s t h. is_found m.vars t (state_typed m t (ends s t h).1);
}
  where
    ends : (s t : State) → IsTrue (is_step m s t) → IsTrue (is_state m s) × IsTrue (is_state m t)
    ends s t h =
        let both = and_parts (is_state m s && is_state m t) _ (and_parts (is_state m s && is_state m t && all_true m.trans _) _ h).0 in
        and_parts (is_state m s) (is_state m t) both.0

pub finite_law : (A : Type 0) → ModelsAreFinite A
finite_law A = record {
  finite = is_finite;
  refuted = λ m label f u fails. failure_law State A (structure m) bytes_eq (typed_states m.vars) label f (is_finite m) u fails;
  conjunction = λ m plain inverted f g w p q.
      conjunction_law State A (structure m) bytes_eq (typed_states m.vars) plain inverted f g w (is_finite m) p q;
}
