-- Inverting a signal negates its own reading, and leaves what does not read it as it is.
use Rattle.std.proofs.Common.{◌≡◌, ℕ, zero, suc, ◌+◌, ◌<◌, ◌≤◌, Bool, false, not, IsTrue, IsFalse, inl, inr, List, [], ◌∷◌, ◌++◌, length, Some, None, refl, sym, ap, subst, ◌∙◌, arith, length-append}
use Rattle.std.specs.Prelude.{slice_get}
use Rattle.std.proofs.lemmas.Bool.{cases_Bool, cases_lt, cases_eq, cond-true, cond-false}
use Rattle.std.proofs.lemmas.Bool.Decides.{Decides-eqb}
use Rattle.cov_syntax.specs.declared.tree.Value.{Value}
use Rattle.cov_syntax.specs.declared.tree.Value.TheVariants as v
use Rattle.cov_syntax.specs.declared.tree.Expr.{Expr}
use Rattle.cov_model.specs.declared.model.Define.{Define}
use Rattle.cov_model.specs.declared.model.Model.{Model}
use Rattle.cov_model.specs.declared.model.Signal.{Signal}
use Rattle.cov_model.specs.declared.model.Signal.TheVariants as signal
use Rattle.cov_model.specs.Values.{item, inverse}
use Rattle.cov_model.specs.Meaning.{Readings, meaning, same_signal, flipped, value, still, define_values}
use Rattle.cov_model.specs.States.{State, values_at, between, readings_in}
use Rattle.cov_model.specs.WellFormed.{IsWellFormed}
use Rattle.cov_model.proofs.Fixed.{facts}
use Rattle.cov_model.proofs.InOrder.{reads_earlier}
use Rattle.cov_laws.specs.Signals.{names, ReadsSignal, itself, through, reading, InvertingIsLocal}
use Rattle.cov_laws.proofs.NamedReadings.{Same, same_itself, same_meaning}
use Rattle.cov_laws.proofs.NamedDefines.{named_is_read}

same_signal_is : (q w : Signal) → IsTrue (same_signal q w) → q ≡ w
same_signal_is (signal.Var i) (signal.Var j) h = ap signal.Var ((Decides-eqb i j).0 h)
same_signal_is (signal.Def i) (signal.Def j) h = ap signal.Def ((Decides-eqb i j).0 h)
same_signal_is (signal.Var i) (signal.Def j) h = cc
same_signal_is (signal.Def i) (signal.Var j) h = cc

-- ---- the values of DEFINEs behind others

item_before : (xs : List Value) (x : Value) (i : ℕ) → i < length xs → item (xs ++ x ∷ []) i ≡ item xs i
item_before [] x i h = absurd (omega arith)
item_before (y ∷ ys) x zero h = refl
item_before (y ∷ ys) x (suc i) h = item_before ys x i (omega arith)

item_last : (xs : List Value) (x : Value) (i : ℕ) → i ≡ length xs → item (xs ++ x ∷ []) i ≡ x
item_last [] x i h = let first : i ≡ 0 = omega arith in ap (item (x ∷ [])) first
item_last (y ∷ ys) x zero h = absurd (omega arith)
item_last (y ∷ ys) x (suc i) h = item_last ys x i (omega arith)

item_past : (xs : List Value) (i : ℕ) → length xs ≤ i → item xs i ≡ v.Bool false
item_past [] i h = refl
item_past (y ∷ ys) zero h = absurd (omega arith)
item_past (y ∷ ys) (suc i) h = item_past ys i (omega arith)

module _ (m : Model) (q : Signal) where
  -- the body of the DEFINE does not read the signal
  abbrev Clean : ℕ → Type 0
  Clean i = (d : Define) → slice_get m.defines i ≡ Some d → ¬ ReadsSignal m q d.body

  -- of the DEFINEs that do not read it, the same values stand in both lists
  record Alike (with without : List Value) : Type 0 where
    long : length with ≡ length without
    at : (i : ℕ) → Clean i → item with i ≡ item without i

  -- what is named is not the signal, where the expression does not read it
  other : (e : Expr) (w : Signal) → ¬ ReadsSignal m q e → IsTrue (names w e) → IsFalse (same_signal q w)
  other e w clean named = elim (cases_Bool (same_signal q w)) [
    | inl h ↦ absurd (clean (itself e (subst (λ z. IsTrue (names z e)) (sym (same_signal_is q w h)) named)))
    | inr h ↦ h
  ]

  module _ (vars : List Value) where
    abbrev inverted : List Value → Readings
    inverted defs = record { vars = vars; defs = defs; flip = Some q }

    abbrev plain : List Value → Readings
    plain defs = record { vars = vars; defs = defs; flip = None }

    named : (e : Expr) → ¬ ReadsSignal m q e → (with without : List Value) → Alike with without → (w : Signal) → IsTrue (names w e) →
        reading (inverted with) w ≡ reading (plain without) w
    named e clean with without alike (signal.Var i) h =
        cond-false (same_signal q (signal.Var i)) (inverse (item vars i)) (item vars i) (other e (signal.Var i) clean h)
    named e clean with without alike (signal.Def i) h =
        cond-false (same_signal q (signal.Def i)) (inverse (item with i)) (item with i) (other e (signal.Def i) clean h)
        ∙ alike.at i (λ d there r. clean (through e i d h there r))

    -- so it means the same
    means : (e : Expr) → ¬ ReadsSignal m q e → (with without : List Value) → Alike with without → (next other : Readings) →
        ((w : Signal) → IsTrue (names w e) → reading next w ≡ reading other w) →
        Same (meaning e) (record { present = inverted with; next = next }) (record { present = plain without; next = other })
    means e clean with without alike next other same =
        same_meaning e (record { present = inverted with; next = next }) (record { present = plain without; next = other })
        (λ w h. (named e clean with without alike w h, same w h))

    one_more : (d : Define) (with without : List Value) → slice_get m.defines (length with) ≡ Some d → Alike with without →
        Alike (with ++ value d.body (still (inverted with)) ∷ []) (without ++ value d.body (still (plain without)) ∷ [])
    one_more d with without there alike =
        let x : Value = value d.body (still (inverted with)) in
        let y : Value = value d.body (still (plain without)) in
        let same = alike.long in
        let long = length-append with (x ∷ []) in
        let also = length-append without (y ∷ []) in
        record {
          long = omega arith;
          at = λ i clean. elim (cases_lt i (length with)) [
            | inl before ↦ item_before with x i before ∙ alike.at i clean ∙ sym (item_before without y i (omega arith))
            | inr behind ↦ elim (cases_eq i (length with)) [
              | inl here ↦
                  let body = clean d (ap (slice_get m.defines) here ∙ there) in
                  let h = means d.body body with without alike (inverted with) (plain without) (named d.body body with without alike) in
                  item_last with x i here ∙ h.0 ∙ sym (item_last without y i (omega arith))
              | inr past ↦ item_past (with ++ x ∷ []) i (omega arith) ∙ sym (item_past (without ++ y ∷ []) i (omega arith))
            ]
          ];
        }

    all_alike : (ds : List Define) (with without : List Value) → ((i : ℕ) (d : Define) → slice_get ds i ≡ Some d → slice_get m.defines (length with + i) ≡ Some d) →
        Alike with without → Alike (define_values ds vars (Some q) with) (define_values ds vars None without)
    all_alike [] with without there alike = alike
    all_alike (d ∷ ds) with without there alike =
        let x : Value = value d.body (still (inverted with)) in
        let y : Value = value d.body (still (plain without)) in
        let first : length with + 0 ≡ length with = omega arith in
        let long = length-append with (x ∷ []) in
        all_alike ds (with ++ x ∷ []) (without ++ y ∷ [])
        (λ i c h. let next : length (with ++ x ∷ []) + i ≡ length with + suc i = omega arith in ap (slice_get m.defines) next ∙ there (suc i) c h)
        (one_more d with without (sym (ap (slice_get m.defines) first) ∙ there 0 d refl) alike)

    alike_defines : Alike (define_values m.defines vars (Some q) []) (define_values m.defines vars None [])
    alike_defines =
        all_alike m.defines [] [] (λ i d h. let same : 0 + i ≡ i = omega arith in ap (slice_get m.defines) same ∙ h) (record { long = refl; at = λ i clean. refl })

  stays : (e : Expr) → ¬ ReadsSignal m q e → (s t : State) → Same (meaning e) (between m s t (Some q)) (between m s t None)
  stays e clean s t =
      means (values_at m.vars s) e clean (define_values m.defines (values_at m.vars s) (Some q) []) (define_values m.defines (values_at m.vars s) None [])
      (alike_defines (values_at m.vars s)) (readings_in m t None) (readings_in m t None) (λ w h. refl)

-- in a well-formed model what names earlier DEFINEs alone does not read a later one
not_later : (m : Model) → IsWellFormed m → (i k : ℕ) → k ≤ i → (e : Expr) → ((j : ℕ) → IsTrue (names (signal.Def j) e) → j < k) → ¬ ReadsSignal m (signal.Def i) e
not_later m w i k within e earlier (itself _ h) = let below = earlier i h in absurd (omega arith)
not_later m w i k within e earlier (through _ j d h there r) =
    let below = earlier j h in
    not_later m w i j (omega arith) d.body (λ n g. reads_earlier m.defines (facts m w).order j d there n (named_is_read n d.body g)) r

inverted_once : (q : Signal) (x : Value) (b : Bool) → x ≡ v.Bool b → flipped (Some q) q x ≡ v.Bool (not b)
inverted_once q x b e = cond-true (same_signal q q) (inverse x) x (same_itself q) ∙ ap inverse e

negates : (m : Model) → IsWellFormed m → (q : Signal) (s : State) (b : Bool) → reading (readings_in m s None) q ≡ v.Bool b → reading (readings_in m s (Some q)) q ≡ v.Bool (not b)
negates m w (signal.Var i) s b h = inverted_once (signal.Var i) (item (values_at m.vars s) i) b h
negates m w (signal.Def i) s b h =
    inverted_once (signal.Def i) (item (define_values m.defines (values_at m.vars s) (Some (signal.Def i)) []) i) b
    ((alike_defines m (signal.Def i) (values_at m.vars s)).at i
    (λ d there. not_later m w i i (omega arith) d.body (λ n g. reads_earlier m.defines (facts m w).order i d there n (named_is_read n d.body g))) ∙ h)

pub local_law : InvertingIsLocal
local_law = record {
  negated = negates;
  value_stays = λ m q e clean s t. (stays m q e clean s t).0;
  choices_stay = λ m q e clean s t x. (stays m q e clean s t).1 x;
}
