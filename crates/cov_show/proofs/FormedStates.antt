-- States of well-formed models, and their texts.
use Rattle.std.proofs.Common.{◌≡◌, ℕ, zero, suc, ◌<◌, ◌≤◌, Bool, true, false, not, ◌&&◌, ◌||◌, IsTrue, List, [], ◌∷◌, length, map, get_or, Option, Some, None, Result, Ok, Err, IfOk, ◌⊎◌, inl, inr, refl, sym, ap, subst, ◌∙◌, arith}
use Rattle.std.specs.Prelude.{nat_lt, slice_get, MatchResult}
use Rattle.std.specs.List.{list_all, list_any}
use Rattle.std.proofs.lemmas.Bool.{and_parts, or_parts, ltb-true, ltb-false}
use Rattle.std.proofs.lemmas.List.{length-map}
use Rattle.cov_syntax.specs.declared.fault.ModelFault.{ModelFault}
use Rattle.cov_syntax.specs.declared.tree.Value.{Value}
use Rattle.cov_syntax.specs.declared.tree.Value.TheVariants as v
use Rattle.cov_syntax.specs.Texts.{IsDistinctTexts}
use Rattle.cov_syntax.specs.Tokens.{Text}
use Rattle.cov_model.specs.declared.model.Model.{Model}
use Rattle.cov_model.specs.declared.model.Var.{Var}
use Rattle.cov_model.specs.Accepted.{kinds_fault, unless_fault}
use Rattle.cov_model.specs.Kinds.{is_truth}
use Rattle.cov_model.specs.Order.{circular, ordered}
use Rattle.cov_model.specs.Settled.{walk_fault, settled_model}
use Rattle.cov_model.specs.States.{State, fits, is_typed}
use Rattle.cov_model.specs.Types.{has_twice, is_empty, type_fault, bits_fault}
use Rattle.cov_model.specs.Values.{item}
use Rattle.cov_model.specs.Walk.{first, fault_if, bad_type, range_too_wide}
use Rattle.cov_model.specs.WellFormed.{IsWellFormed, is_symbol, are_values}
use Rattle.cov_model.specs.Written.{formula_fault}
use Rattle.cov_model.proofs.Tied.{first_none, first_none_left, no_fault}
use Rattle.cov_show.specs.declared.state_fault.StateRefused.{StateRefused}
use Rattle.cov_show.specs.declared.state_fault.StateRefused.TheVariants as refused
use Rattle.cov_show.specs.Cubes.{value_text, shown, shown_vars}
use Rattle.cov_show.specs.States.{state_text, told, fault_of, is_small_value, are_small, IsRefusal}
use Rattle.cov_show.proofs.StateReading.{fits_shown, ArePlain, AreReadable, IsAlike, AreAlike, TellsAlike, told-read, state_told, item-at, mapped}
use Rattle.cov_show.proofs.ValueTexts.{lacks, comma_outside, value_lacks, value_alone, one_value, IsUniform}

-- ---- variables of well-formed models

pub record IsFormedVar (m : Model) (x : Var) : Type 0 where
  pub few : length x.values ≤ 1024
  pub different : has_twice x.values ≡ false
  pub symbols : list_all (is_symbol m) x.values ≡ true
  pub truths : are_values x.values ≡ true

abbrev pub AreFormed : Model → List Var → Type 0
AreFormed m [] = Unit {0}
AreFormed m (x ∷ xs) = IsFormedVar m x × AreFormed m xs

accepted : (o : Option ModelFault) (m k : Model) → unless_fault o k ≡ Ok m → o ≡ None
accepted None m k h = refl
accepted (Some f) m k h = cc

formed_var : (m : Model) (x : Var) → type_fault x ≡ None → list_all (is_symbol m) x.values ≡ true → are_values x.values ≡ true → IsFormedVar m x
formed_var m x h symbols truths =
    let wide : List (Option ModelFault) = fault_if (nat_lt 1024 (length x.values)) range_too_wide x.kind_place ∷ [] in
    let p = first_none (fault_if (is_empty x.values || has_twice x.values) bad_type x.kind_place) wide h in
    let q = first_none (fault_if (nat_lt 1024 (length x.values)) range_too_wide x.kind_place) [] p.1 in
    let e = or_parts (is_empty x.values) (has_twice x.values) (no_fault _ bad_type x.kind_place p.0) in
    record {
      few = ltb-false 1024 (length x.values) (no_fault _ range_too_wide x.kind_place q.0);
      different = e.1;
      symbols = symbols;
      truths = truths;
    }

formed_vars : (m : Model) (xs : List Var) → first (map type_fault xs) ≡ None → list_all (λ (x : Var). list_all (is_symbol m) x.values) xs ≡ true
    → list_all (λ (x : Var). are_values x.values) xs ≡ true → AreFormed m xs
formed_vars m [] h s t = tt
formed_vars m (x ∷ xs) h s t =
    let p = first_none (type_fault x) (map type_fault xs) h in
    let q = and_parts (list_all (is_symbol m) x.values) (list_all (λ (y : Var). list_all (is_symbol m) y.values) xs) s in
    let r = and_parts (are_values x.values) (list_all (λ (y : Var). are_values y.values) xs) t in
    (formed_var m x p.0 q.0 r.0, formed_vars m xs p.1 q.1 r.1)

pub formed : (m : Model) → IsWellFormed m → AreFormed m m.vars
formed m h =
    let none : kinds_fault m ≡ None = accepted (kinds_fault m) m (settled_model (ordered m)) h.settled in
    let later : List (Option ModelFault) = bits_fault 0 m.vars ∷ circular m.defines ∷ walk_fault (ordered m) ∷ map formula_fault m.specs in
    formed_vars m m.vars (first_none_left (map type_fault m.vars) later none) h.symbols h.values

-- a place of a value fits 16 bits
few_at : (m : Model) (xs : List Var) → AreFormed m xs → (k : ℕ) (d : Var) → k < length xs → length (get_or xs k d).values < 65536
few_at m [] f k d h = absurd (omega arith)
few_at m (x ∷ xs) f zero d h = omega (arith, f.0.few)
few_at m (x ∷ xs) f (suc k) d h = few_at m xs f.1 k d (omega arith)

pub few_values : (m : Model) (ys : List Var) → IsWellFormed m → ys ≡ m.vars → (k : ℕ) (d : Var) → k < length ys → length (get_or ys k d).values < 65536
few_values m ys h e = subst (λ (xs : List Var). (k : ℕ) (d : Var) → k < length xs → length (get_or xs k d).values < 65536) (sym e) (few_at m m.vars (formed m h))

-- ---- values at places

there : {A : Type 0} (xs : List A) (i : ℕ) (d : A) → i < length xs → slice_get xs i ≡ Some (get_or xs i d)
there [] i d h = absurd (omega arith)
there (x ∷ xs) zero d h = refl
there (x ∷ xs) (suc i) d h = there xs i d (omega arith)

pub all_at : {A : Type 0} (p : A → Bool) (xs : List A) (i : ℕ) (d : A) → list_all p xs ≡ true → i < length xs → p (get_or xs i d) ≡ true
all_at p [] i d e h = absurd (omega arith)
all_at p (x ∷ xs) zero d e h = (and_parts (p x) (list_all p xs) e).0
all_at p (x ∷ xs) (suc i) d e h = all_at p xs i d (and_parts (p x) (list_all p xs) e).1 (omega arith)

no_truth : (xs : List Value) (i : ℕ) (x : Value) → list_any is_truth xs ≡ false → slice_get xs i ≡ Some x → is_truth x ≡ false
no_truth [] i x h e = cc
no_truth (y ∷ xs) zero x h e = let same : y ≡ x = cc in ap is_truth (sym same) ∙ (or_parts (is_truth y) (list_any is_truth xs) h).0
no_truth (y ∷ xs) (suc i) x h e = no_truth xs i x (or_parts (is_truth y) (list_any is_truth xs) h).1 e

not_true : (t : Bool) → not t ≡ true → t ≡ false
not_true true e = cc
not_true false e = refl

no_truths : (xs : List Value) → not (list_any is_truth xs) ≡ true → IsUniform xs
no_truths xs h i j x y e f =
    let none = not_true (list_any is_truth xs) h in
    no_truth xs i x none e ∙ sym (no_truth xs j y none f)

both_truths : (i : ℕ) (x : Value) → slice_get (v.Bool false ∷ v.Bool true ∷ []) i ≡ Some x → is_truth x ≡ true
both_truths zero x e = let same : v.Bool false ≡ x = cc in ap is_truth (sym same)
both_truths (suc zero) x e = let same : v.Bool true ≡ x = cc in ap is_truth (sym same)
both_truths (suc (suc i)) x e = cc

uniform : (xs : List Value) → are_values xs ≡ true → IsUniform xs
uniform (v.Bool false ∷ v.Bool true ∷ []) h = λ i j x y e f. both_truths i x e ∙ sym (both_truths j y f)
uniform xs h = no_truths xs h

-- ---- readable variables

plain : (m : Model) (x : Var) → IsFormedVar m x → ArePlain (map (value_text m.names) x.values)
plain m x f i h =
    let below : i < length x.values = omega (arith, h, length-map x.values (value_text m.names)) in
    ap (lacks 44) (mapped m.names x.values i below)
    ∙ value_lacks m 44 (get_or x.values i (v.Bool false)) (omega arith) comma_outside (all_at (is_symbol m) x.values i (v.Bool false) f.symbols below)

pub readable : (m : Model) (xs : List Var) → AreFormed m xs → AreReadable (map (shown m.names) xs)
readable m [] f = tt
readable m (x ∷ xs) f = (plain m x f.0, readable m xs f.1)

pub fits-shown : (names : List Text) (xs : List Var) (s : List ℕ) → fits_shown (map (shown names) xs) s ≡ fits xs s
fits-shown names [] [] = refl
fits-shown names [] (i ∷ s) = refl
fits-shown names (x ∷ xs) [] = refl
fits-shown names (x ∷ xs) (i ∷ s) =
    ap (λ n. nat_lt i n && fits_shown (map (shown names) xs) s) (length-map x.values (value_text names)) ∙ ap (λ (t : Bool). nat_lt i (length x.values) && t) (fits-shown names xs s)

-- ---- the state of a text

-- a value of 32 bits is the one whose text it has
same_place : (m : Model) (x : Var) (i j : ℕ) → IsFormedVar m x → IsDistinctTexts m.names → i < length x.values → IsAlike (map (value_text m.names) x.values) i j
    → is_small_value (item x.values j) ≡ true → j ≡ i
same_place m x i j f d within a small =
    let no : Value = v.Bool false in
    let below : j < length x.values = omega (arith, a.below, length-map x.values (value_text m.names)) in
    let one = there x.values i no within in
    let other = there x.values j no below in
    let text : value_text m.names (get_or x.values j no) ≡ value_text m.names (get_or x.values i no) =
    sym (mapped m.names x.values j below) ∙ a.text ∙ mapped m.names x.values i within in
    let same : get_or x.values j no ≡ get_or x.values i no =
    value_alone m (get_or x.values j no) (get_or x.values i no) d (all_at (is_symbol m) x.values j no f.symbols below) (all_at (is_symbol m) x.values i no f.symbols within)
    (uniform x.values f.truths j i (get_or x.values j no) (get_or x.values i no) other one) (ap is_small_value (sym (item-at x.values j)) ∙ small) text in
    one_value x.values j i (get_or x.values j no) f.different other (one ∙ ap (λ (y : Value). Some y) (sym same))

same_state : (m : Model) (xs : List Var) (s t : List ℕ) → AreFormed m xs → IsDistinctTexts m.names → fits xs s ≡ true → AreAlike (map (shown m.names) xs) s t
    → are_small xs t ≡ true → t ≡ s
same_state m [] [] [] f d h a small = refl
same_state m [] [] (j ∷ t) f d h a small = absurd a
same_state m [] (i ∷ s) t f d h a small = cc
same_state m (x ∷ xs) [] t f d h a small = cc
same_state m (x ∷ xs) (i ∷ s) [] f d h a small = absurd a
same_state m (x ∷ xs) (i ∷ s) (j ∷ t) f d h a small =
    let p = and_parts (nat_lt i (length x.values)) (fits xs s) h in
    let q = and_parts (is_small_value (item x.values j)) (are_small xs t) small in
    let place : j ≡ i = same_place m x i j f.0 d (ltb-true i (length x.values) p.0) a.0 q.0 in
    let rest : t ≡ s = same_state m xs s t f.1 d p.1 a.1 q.1 in
    cc

-- ---- what is read

-- what is told of the variables of a model
abbrev pub Answers : Model → List Var → Text → Result State StateRefused → Type 0
Answers m xs z r = MatchResult r (λ s. told (map (shown m.names) xs) z ≡ Ok s) (IsRefusal (fault_of (told (map (shown m.names) xs) z)))

pub read_is : (m : Model) (z : Text) (r : Result State StateRefused) → Answers m m.vars z r
    → IfOk r (λ s. IsTrue (is_typed m s) × (z ≡ state_text (shown_vars m) s))
read_is m z (Ok s) h = let t = state_told (shown_vars m) z s h in (sym (fits-shown m.names m.vars s) ∙ t.fits, t.text)
read_is m z (Err e) h = tt

pub read_only : (m : Model) (z : Text) (r : Result State StateRefused) (s : State) → IsWellFormed m → IsDistinctTexts m.names → Answers m m.vars z r
    → IfOk r (λ t. IsTrue (are_small m.vars t)) → IsTrue (is_typed m s) → z ≡ state_text (shown_vars m) s → (r ≡ Ok s) ⊎ (r ≡ Err refused.Memory)
read_only m z r s w d h small typed e = by r h small
  where
    t : TellsAlike (shown_vars m) s (told (shown_vars m) (state_text (shown_vars m) s))
    t = told-read (shown_vars m) s (readable m m.vars (formed m w)) (fits-shown m.names m.vars s ∙ typed)

    by : (r : Result State StateRefused) → Answers m m.vars z r → IfOk r (λ t. IsTrue (are_small m.vars t)) → (r ≡ Ok s) ⊎ (r ≡ Err refused.Memory)
    by (Err refused.Memory) g k = inr refl
    by (Err (refused.Fault f)) g k =
        let none : fault_of (told (shown_vars m) z) ≡ None = ap (λ (y : Text). fault_of (told (shown_vars m) y)) e ∙ ap fault_of t.is in
        cc
    by (Ok u) g k =
        let is : Ok t.state ≡ Ok u = sym t.is ∙ ap (told (shown_vars m)) (sym e) ∙ g in
        let same : t.state ≡ u = cc in
        let alike : AreAlike (shown_vars m) s u = subst (λ (u : List ℕ). AreAlike (shown_vars m) s u) same t.alike in
        inl (ap (λ (u : List ℕ). Ok u) (same_state m m.vars s u (formed m w) d typed alike k))
