-- A DEFINE has the value of its body.
use Rattle.std.proofs.Common.{◌≡◌, ◌<◌, ◌+◌, ℕ, zero, suc, List, [], ◌∷◌, ◌++◌, length, Option, Some, refl, sym, ap, subst, ◌∙◌, arith, length-append}
use Rattle.std.specs.Prelude.{slice_get}
use Rattle.cov_syntax.specs.declared.tree.Value.{Value}
use Rattle.cov_model.specs.declared.model.Signal.{Signal}
use Rattle.cov_model.specs.declared.model.Signal.TheVariants as signal
use Rattle.cov_model.specs.declared.model.Define.{Define}
use Rattle.cov_model.specs.declared.model.Model.{Model}
use Rattle.cov_model.specs.Meaning.{Readings, Point, still, value, define, flipped, define_values}
use Rattle.cov_model.specs.Settled.{kinds_of, steady}
use Rattle.cov_model.specs.States.{State, values_at, between, readings_in}
use Rattle.cov_model.specs.Values.{item}
use Rattle.cov_model.specs.WellFormed.{IsWellFormed}
use Rattle.cov_model.proofs.Fixed.{facts}
use Rattle.cov_model.proofs.InOrder.{reads_earlier}
use Rattle.cov_readings.proofs.Readings.{same_meaning}
use Rattle.cov_readings.proofs.WholeLists.{all_faultless}

value_before : (xs : List Value) (x : Value) (i : ℕ) → i < length xs → item (xs ++ x ∷ []) i ≡ item xs i
value_before [] x i h = absurd (omega arith)
value_before (y ∷ ys) x zero h = refl
value_before (y ∷ ys) x (suc i) h = value_before ys x i (omega arith)

value_last : (xs : List Value) (x : Value) → item (xs ++ x ∷ []) (length xs) ≡ x
value_last [] x = refl
value_last (y ∷ ys) x = value_last ys x

module _ (vars : List Value) (flip : Option Signal) where
  -- what is read where these values of DEFINEs stand
  abbrev reading : List Value → Readings
  reading defs = record { vars = vars; defs = defs; flip = flip }

  values_before : (ds : List Define) (done : List Value) (i : ℕ) → i < length done → item (define_values ds vars flip done) i ≡ item done i
  values_before [] done i h = refl
  values_before (d ∷ ds) done i h =
      let x : Value = value d.body (still (reading done)) in
      values_before ds (done ++ x ∷ []) i (omega (arith, length-append done (x ∷ []))) ∙ value_before done x i h

  -- the value at a place is that of the body, read with values that are the same before it
  record IsValued (all : List Value) (i : ℕ) (d : Define) : Type 0 where
    done : List Value
    is : item all i ≡ value d.body (still (reading done))
    before : (j : ℕ) → j < i → item done j ≡ item all j

  valued : (ds : List Define) (done : List Value) (i : ℕ) (d : Define) → slice_get ds i ≡ Some d → IsValued (define_values ds vars flip done) (length done + i) d
  valued [] done i d g = cc
  valued (c ∷ ds) done zero d g =
      let x : Value = value c.body (still (reading done)) in
      let all : List Value = define_values ds vars flip (done ++ x ∷ []) in
      let is : c ≡ d = cc in
      let at : length done ≡ length done + 0 = omega arith in
      subst (λ (e : Define). IsValued all (length done + 0) e) is
      (subst (λ (n : ℕ). IsValued all n c) at (record {
        done = done;
        is = values_before ds (done ++ x ∷ []) (length done) (omega (arith, length-append done (x ∷ []))) ∙ value_last done x;
        before = λ j h. sym (values_before (c ∷ ds) done j h);
      }))
  valued (c ∷ ds) done (suc i) d g =
      let x : Value = value c.body (still (reading done)) in
      let at : length (done ++ x ∷ []) + i ≡ length done + suc i = omega (arith, length-append done (x ∷ [])) in
      subst (λ (n : ℕ). IsValued (define_values ds vars flip (done ++ x ∷ [])) n d) at (valued ds (done ++ x ∷ []) i d g)

from_zero : (i : ℕ) → 0 + i ≡ i
from_zero i = omega arith

pub body_value : (m : Model) → IsWellFormed m → (i : ℕ) (d : Define) → slice_get m.defines i ≡ Some d → (s t : State) (flip : Option Signal)
    → define (readings_in m s flip) i ≡ flipped flip (signal.Def i) (value d.body (between m s t flip))
body_value m w i d g s t flip =
    let vars : List Value = values_at m.vars s in
    let all : List Value = define_values m.defines vars flip [] in
    let h : IsValued vars flip all i d = subst (λ (n : ℕ). IsValued vars flip all n d) (from_zero i) (valued vars flip m.defines [] i d g) in
    let p : Point = still (reading vars flip h.done) in
    let q : Point = between m s t flip in
    let same = same_meaning (kinds_of m) p q (record { vars = refl; flip = refl }) d.body steady refl ((all_faultless m w).defines i d g).none
    (λ j r. h.before j (reads_earlier m.defines (facts m w).order i d g j r)) in
    ap (λ (x : Value). flipped flip (signal.Def i) x) (h.is ∙ same.0)
