-- No initial state starts a fair lasso exactly where no pair is both initial and good.
use Rattle.std.proofs.Common.{◌≡◌, ℕ, ◌*◌, List, [], ◌∷◌, Bool, true, false, not, IsTrue, ◌↔◌, length, refl, sym, ◌∙◌, ap, subst, subst₂, arith}
use Rattle.std.proofs.lemmas.Bool.{and_parts, and_from, false≢true}
use Rattle.cov_logic.specs.FairLasso.{StartsFair}
use Rattle.cov_bits.specs.Layout.{bits, sizes}
use Rattle.cov_model.specs.declared.model.Model.{Model}
use Rattle.cov_model.specs.Paths.{structure}
use Rattle.cov_model.specs.States.{State, is_initial, is_state}
use Rattle.cov_space.specs.declared.layer.Layer.TheVariants.{V}
use Rattle.cov_space.specs.Operations.{intersection}
use Rattle.cov_space.specs.Answers.{PutsSet}
use Rattle.cov_space.specs.Sets.{SpaceOf, lies, set_at}
use Rattle.cov_space.proofs.Calls.{at_behind}
use Rattle.cov_space.proofs.Members.{lies-intersection}
use Rattle.cov_space.proofs.Sets.{lies_values}
use Rattle.cov_fields.specs.Sets.{IsEmpty}
use Rattle.cov_nodes.specs.Points.{state_of}
use Rattle.cov_lifts.specs.Lifts.{row_of}
use Rattle.cov_lifts.proofs.States as states
use Rattle.cov_sym.specs.declared.sys.Sys.{Sys}
use Rattle.cov_sym.specs.Systems.{initial_set}
use Rattle.cov_hold.specs.Prepared.{AreGoodStates, IsPrepared}
use Rattle.cov_hold.proofs.Rows.{state_typed}
use Rattle.cov_jobs.specs.Specifications.{NoFairInitial}

never : (b : Bool) → b ≡ false → IsTrue b → ⊥
never b h e = false≢true (sym h ∙ e)

is_false : (b : Bool) → (IsTrue b → ⊥) → b ≡ false
is_false true h = absurd (h refl)
is_false false h = refl

module _ (m : Model) (levels : ℕ) (initial good : List Bool) (whole : levels ≡ 3 * bits (sizes m.vars)) (first : initial ≡ initial_set levels m) (goods : AreGoodStates m levels good) where
  initial_at : (r : List Bool) → length r ≡ levels → lies initial r ≡ is_initial m (state_of m V r)
  initial_at r len = ap (λ (x : List Bool). lies x r) first ∙ lies_values levels (λ r. is_initial m (state_of m V r)) r len

  to_none : IsEmpty levels (intersection levels initial good) → NoFairInitial m
  to_none empty s starts fair =
      let ns : List ℕ = sizes m.vars in
      let r : List Bool = row_of ns s s s in
      let len : length r ≡ levels = states.long ns s s s ∙ sym whole in
      let state : IsTrue (is_state m s) = (and_parts _ _ (and_parts _ _ starts).0).0 in
      let at_v : state_of m V r ≡ s = states.present ns s s s (state_typed m s state) in
      let is_first : IsTrue (lies initial r) = subst IsTrue (sym (initial_at r len)) (subst (λ (t : State). IsTrue (is_initial m t)) (sym at_v) starts) in
      let is_good : IsTrue (lies good r) = (goods.are r len).1 (subst (λ (t : State). StartsFair (structure m) t) (sym at_v) fair) in
      never (lies (intersection levels initial good) r) (empty r len)
      (subst IsTrue (sym (lies-intersection levels initial good r len)) (and_from (lies initial r) (lies good r) is_first is_good))

  to_empty : NoFairInitial m → IsEmpty levels (intersection levels initial good)
  to_empty none r len = is_false (lies (intersection levels initial good) r) (λ e.
      let both = and_parts (lies initial r) (lies good r) (subst IsTrue (lies-intersection levels initial good r len) e) in
      none (state_of m V r) (subst IsTrue (initial_at r len) both.0) ((goods.are r len).0 both.1))

  pub none_fair : (empty : Bool) → (IsTrue empty ↔ IsEmpty levels (intersection levels initial good)) → (not empty ≡ false) ↔ NoFairInitial m
  none_fair true e = (λ h. to_none (e.0 refl), λ h. refl)
  none_fair false e = (λ h. cc h, λ h. cc (e.1 (to_empty h)))

-- the set of initial states that start a fair lasso, put behind the sets of a model, says so
pub fair_is : (m : Model) (sys : Sys) (s1 : SpaceOf) (n initial good : ℕ) (empty : Bool) → IsPrepared m sys → n ≡ length sys.space.sets → initial ≡ sys.initial → good ≡ sys.built
    → PutsSet sys.space s1 (intersection sys.space.levels (set_at sys.space.sets initial) (set_at sys.space.sets good))
    → IsTrue empty ↔ IsEmpty s1.levels (set_at s1.sets n) → (not empty ≡ false) ↔ NoFairInitial m
fair_is m sys s1 n initial good empty prepared count at_initial at_good puts told =
    let s : SpaceOf = sys.space in
    let x : List Bool = intersection s.levels (set_at s.sets initial) (set_at s.sets good) in
    let levels : s1.levels ≡ s.levels = ap (λ (t : SpaceOf). t.levels) puts.is in
    let set : set_at s1.sets n ≡ x = at_behind s s1 (x ∷ []) n 0 puts.is (omega (arith, count)) in
    none_fair m s.levels (set_at s.sets initial) (set_at s.sets good) prepared.built.levels
    (ap (λ k. set_at s.sets k) at_initial ∙ prepared.built.initial)
    (subst (λ k. AreGoodStates m s.levels (set_at s.sets k)) (sym at_good) prepared.good) empty
    (subst₂ (λ k (g : List Bool). IsTrue empty ↔ IsEmpty k g) levels set told)
