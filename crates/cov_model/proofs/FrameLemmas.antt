-- One more place of a frame.
use Rattle.std.proofs.Common.{◌≡◌, ℕ, zero, suc, ◌+◌, ◌<◌, ◌≤◌, IsTrue, List, [], ◌∷◌, ◌++◌, length, get_or, take, drop, set, append-nil, Option, Some, None, refl, sym, ap, ◌∙◌, arith, add-one, append_assoc, length-set}
use Rattle.std.specs.Prelude.{slice_get, unwrap_or, nat_lt}
use Rattle.std.proofs.Math.Seq.{take-suc-set}
use Rattle.std.proofs.lemmas.Option.{slice_get_read}
use Rattle.cov_syntax.specs.declared.tree.Value.{Value}
use Rattle.cov_model.specs.declared.model.Signal.{Signal}
use Rattle.cov_model.specs.declared.model.Var.{Var}
use Rattle.cov_model.specs.declared.model.Define.{Define}
use Rattle.cov_model.specs.Values.{item}
use Rattle.cov_model.specs.Meaning.{still}
use Rattle.cov_model.specs.Machine as made
use Rattle.cov_model.specs.States.{State, values_at, fits}
use Rattle.cov_model.proofs.Joined.{and_split}

value_next : (vars : List Var) (s : State) (i : ℕ) (x : Var) → IsTrue (fits vars s) → slice_get vars i ≡ Some x
    → values_at (drop i vars) (drop i s) ≡ item x.values (unwrap_or (slice_get s i) 0) ∷ values_at (drop (suc i) vars) (drop (suc i) s)
value_next [] s i x f g = cc
value_next (y ∷ ys) [] i x f g = cc
value_next (y ∷ ys) (p ∷ s) zero x f g = let h : y ≡ x = cc in ap (λ (z : Var). item z.values p ∷ values_at ys s) h
value_next (y ∷ ys) (p ∷ s) (suc i) x f g = value_next ys s i x (and_split (nat_lt p (length y.values)) (fits ys s) f).1 g

-- what is done, with what is left
unfoldable pub front : List Var → State → List Value → ℕ → List Value
front vars s values i = take i values ++ values_at (drop i vars) (drop i s)

pub front_more : (vars : List Var) (s : State) (values : List Value) (i : ℕ) (x : Var) → IsTrue (fits vars s) → slice_get vars i ≡ Some x → i < length values
    → front vars s (set values i (item x.values (unwrap_or (slice_get s i) 0))) (i + 1) ≡ front vars s values i
unfolding front
front_more vars s values i x f g h =
    let a : Value = item x.values (unwrap_or (slice_get s i) 0) in
    ap (λ (k : ℕ). take k (set values i a) ++ values_at (drop k vars) (drop k s)) (add-one i)
    ∙ ap (λ (xs : List Value). xs ++ values_at (drop (suc i) vars) (drop (suc i) s)) (take-suc-set values i a h)
    ∙ append_assoc (take i values) (a ∷ []) (values_at (drop (suc i) vars) (drop (suc i) s))
    ∙ ap (λ (xs : List Value). take i values ++ xs) (sym (value_next vars s i x f g))

define_next : (ds : List Define) (i : ℕ) (d : Define) → slice_get ds i ≡ Some d → drop i ds ≡ d ∷ drop (suc i) ds
define_next [] i d g = cc
define_next (e ∷ es) zero d g = let h : e ≡ d = cc in ap (λ (z : Define). z ∷ es) h
define_next (e ∷ es) (suc i) d g = define_next es i d g

-- the values of the DEFINEs, with those that are known
unfoldable pub completed : List Define → List Value → Option Signal → List Value → ℕ → List Value
completed ds vars flip defs i = made.define_values (drop i ds) vars flip (take i defs)

pub completed_more : (ds : List Define) (vars : List Value) (flip : Option Signal) (defs : List Value) (i : ℕ) (d : Define) → slice_get ds i ≡ Some d → i < length defs
    → completed ds vars flip (set defs i (made.value d.body (still (record { vars = vars; defs = take i defs; flip = flip })))) (i + 1) ≡ completed ds vars flip defs i
unfolding completed
completed_more ds vars flip defs i d g h =
    let a : Value = made.value d.body (still (record { vars = vars; defs = take i defs; flip = flip })) in
    ap (λ (k : ℕ). made.define_values (drop k ds) vars flip (take k (set defs i a))) (add-one i)
    ∙ ap (λ (xs : List Value). made.define_values (drop (suc i) ds) vars flip xs) (take-suc-set defs i a h)
    ∙ ap (λ (es : List Define). made.define_values es vars flip (take i defs)) (sym (define_next ds i d g))

-- ---- the turns of the loops

take_all : {A : Type 0} (xs : List A) (i : ℕ) → length xs ≤ i → take i xs ≡ xs
take_all [] zero h = refl
take_all [] (suc i) h = refl
take_all (x ∷ xs) zero h = absurd (omega arith)
take_all (x ∷ xs) (suc i) h = ap (λ (ys : List _). x ∷ ys) (take_all xs i (omega arith))

drop_all : {A : Type 0} (xs : List A) (i : ℕ) → length xs ≤ i → drop i xs ≡ []
drop_all [] zero h = refl
drop_all [] (suc i) h = refl
drop_all (x ∷ xs) zero h = absurd (omega arith)
drop_all (x ∷ xs) (suc i) h = drop_all xs i (omega arith)

pub front_none : (vars : List Var) (s : State) (values : List Value) → front vars s values 0 ≡ values_at vars s
unfolding front
front_none vars s values = refl

pub front_step : (vars : List Var) (s : State) (values new xs : List Value) (i p : ℕ) (x : Var) (a : Value)
    → IsTrue (fits vars s) → i < length vars → length values ≡ length vars → x ≡ get_or vars i x → xs ≡ x.values → p ≡ unwrap_or (slice_get s i) 0 → a ≡ item xs p → new ≡ set values i a
    → front vars s values i ≡ values_at vars s → front vars s new (i + 1) ≡ values_at vars s
front_step vars s values new xs i p x a f h l e ex ep ea en d =
    ap (λ (z : List Value). front vars s z (i + 1)) en
    ∙ ap (λ (z : Value). front vars s (set values i z) (i + 1)) (ea ∙ ap (λ (z : List Value). item z p) ex ∙ ap (λ (k : ℕ). item x.values k) ep)
    ∙ front_more vars s values i x f (slice_get_read vars (length vars) i x refl h e) (omega arith)
    ∙ d

pub front_all : (vars : List Var) (s : State) (values : List Value) (i : ℕ) → length vars ≤ i → length values ≡ length vars → front vars s values i ≡ values_at vars s → values ≡ values_at vars s
unfolding front
front_all vars s values i h l d =
    sym (append-nil values)
    ∙ ap (λ (xs : List Value). xs ++ []) (sym (take_all values i (omega arith)))
    ∙ ap (λ (ys : List Var). take i values ++ values_at ys (drop i s)) (sym (drop_all vars i h))
    ∙ d

pub completed_none : (ds : List Define) (vars : List Value) (flip : Option Signal) (defs : List Value) → completed ds vars flip defs 0 ≡ made.define_values ds vars flip []
unfolding completed
completed_none ds vars flip defs = refl

pub completed_step : (ds : List Define) (vars rvars : List Value) (flip rflip : Option Signal) (defs new : List Value) (i k : ℕ) (d : Define) (a : Value)
    → i < length ds → length defs ≡ length ds → k ≡ i → rvars ≡ vars → rflip ≡ flip → d ≡ get_or ds i d
    → a ≡ made.value d.body (still (record { vars = rvars; defs = take k defs; flip = rflip })) → new ≡ set defs i a
    → completed ds vars flip defs i ≡ made.define_values ds vars flip [] → completed ds vars flip new (i + 1) ≡ made.define_values ds vars flip []
completed_step ds vars rvars flip rflip defs new i k d a h l ek ev ef e ea en g =
    ap (λ (z : List Value). completed ds vars flip z (i + 1)) en
    ∙ ap (λ (z : Value). completed ds vars flip (set defs i z) (i + 1))
    (ea
    ∙ ap (λ (n : ℕ). made.value d.body (still (record { vars = rvars; defs = take n defs; flip = rflip }))) ek
    ∙ ap (λ (z : List Value). made.value d.body (still (record { vars = z; defs = take i defs; flip = rflip }))) ev
    ∙ ap (λ (z : Option Signal). made.value d.body (still (record { vars = vars; defs = take i defs; flip = z }))) ef)
    ∙ completed_more ds vars flip defs i d (slice_get_read ds (length ds) i d refl h e) (omega arith)
    ∙ g

pub completed_all : (ds : List Define) (vars : List Value) (flip : Option Signal) (defs : List Value) (i k : ℕ) → length ds ≤ i → length defs ≡ length ds → k ≡ i
    → completed ds vars flip defs i ≡ made.define_values ds vars flip [] → take k defs ≡ made.define_values ds vars flip []
unfolding completed
completed_all ds vars flip defs i k h l ek g =
    ap (λ (n : ℕ). take n defs) ek
    ∙ ap (λ (es : List Define). made.define_values es vars flip (take i defs)) (sym (drop_all ds i h))
    ∙ g
