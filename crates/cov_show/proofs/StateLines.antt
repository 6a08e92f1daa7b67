-- The texts of states: which texts they are, and that each is one line of its own.
use Rattle.std.proofs.Common.{◌≡◌, ◌≢◌, ℕ, ◌<◌, Bool, true, false, not, ◌&&◌, ◌==◌, if◌then◌else◌, IsTrue, List, [], ◌∷◌, ◌++◌, length, map, get_or, codes, Option, Some, None, Result, Ok, Err, ◌↔◌, refl, sym, ap, ◌∙◌, append_assoc, arith}
use Rattle.std.specs.Prelude.{nat_lt, slice_get}
use Rattle.std.specs.List.{list_all}
use Rattle.std.proofs.lemmas.Bool.{and_parts, ltb-true, eqb-true}
use Rattle.std.proofs.lemmas.Bool.Decides.{Decides-eqb}
use Rattle.std.proofs.lemmas.List.{append-nil}
use Rattle.std.proofs.lemmas.Option.{get_or_from_slice_get}
use Rattle.cov_syntax.specs.declared.tree.Value.TheVariants as v
use Rattle.cov_syntax.specs.Tokens.{Text}
use Rattle.cov_model.specs.declared.model.Define.{Define}
use Rattle.cov_model.specs.declared.model.Model.{Model}
use Rattle.cov_model.specs.declared.model.Var.{Var}
use Rattle.cov_model.specs.Names.{is_name, parts_from}
use Rattle.cov_model.specs.States.{State, fits, is_typed}
use Rattle.cov_model.specs.WellFormed.{IsWellFormed, has_name, is_symbol}
use Rattle.cov_show.specs.declared.state_fault.StateFault.{StateFault}
use Rattle.cov_show.specs.Cubes.{value_text, shown, shown_vars, comma_joined}
use Rattle.cov_show.specs.States.{state_part, state_parts, state_text, told, fault_of, state_fault, IsStateText}
use Rattle.cov_show.proofs.CubeLemmas.{marked, marked-joined}
use Rattle.cov_show.proofs.FormedStates.{IsFormedVar, AreFormed, formed, readable, fits-shown, all_at}
use Rattle.cov_show.proofs.StateReading.{told-read, state_told, mapped}
use Rattle.cov_show.proofs.ValueTexts.{lacks, IsOutside, line_end_outside, name_lacks, value_lacks}

-- ---- texts without a fault

told_state : (m : Model) (z : Text) (t : Result (List ℕ) StateFault) → told (shown_vars m) z ≡ t → fault_of t ≡ None → IsStateText m z
told_state m z (Err f) e h = cc
told_state m z (Ok s) e h = let t = state_told (shown_vars m) z s e in (s, (sym (fits-shown m.names m.vars s) ∙ t.fits, t.text))

no_fault : (m : Model) (s : State) → IsWellFormed m → IsTrue (is_typed m s) → state_fault (shown_vars m) (state_text (shown_vars m) s) ≡ None
no_fault m s w typed = ap fault_of (told-read (shown_vars m) s (readable m m.vars (formed m w)) (fits-shown m.names m.vars s ∙ typed)).is

pub faultless : (m : Model) (z : Text) → IsWellFormed m → (state_fault (shown_vars m) z ≡ None) ↔ IsStateText m z
faultless m z w = (
  λ h. told_state m z (told (shown_vars m) z) refl h,
  λ h. ap (state_fault (shown_vars m)) h.1.1 ∙ no_fault m h.0 w h.1.0,
)

-- ---- bytes that do not stand in it

lacks-append : (c : ℕ) (y z : Text) → lacks c (y ++ z) ≡ (lacks c y && lacks c z)
lacks-append c [] z = refl
lacks-append c (b ∷ y) z = ap (λ (t : Bool). not (b == c) && t) (lacks-append c y z) ∙ grouped (not (b == c)) (lacks c y) (lacks c z)
  where
    grouped : (p q r : Bool) → (p && (q && r)) ≡ ((p && q) && r)
    grouped true q r = refl
    grouped false q r = refl

both_lack : (c : ℕ) (y z : Text) → lacks c y ≡ true → lacks c z ≡ true → lacks c (y ++ z) ≡ true
both_lack c y z h g = lacks-append c y z ∙ ap (λ (t : Bool). t && lacks c z) h ∙ g

-- the names of a model
dotted_lack : (c : ℕ) (done z : Text) → IsOutside c → not (46 == c) ≡ true → list_all is_name (parts_from done z) ≡ true → lacks c (done ++ z) ≡ true
dotted_lack c done [] h g e = ap (lacks c) (append-nil done) ∙ name_lacks c done h (and_parts (is_name done) true e).0
dotted_lack c done (b ∷ z) h g e = by (b == 46) refl e (dotted_lack c [] z h g) (dotted_lack c (done ++ b ∷ []) z h g)
  where
    by : (t : Bool) → (b == 46) ≡ t → list_all is_name (if t then done ∷ parts_from [] z else parts_from (done ++ b ∷ []) z) ≡ true
        → (list_all is_name (parts_from [] z) ≡ true → lacks c z ≡ true)
        → (list_all is_name (parts_from (done ++ b ∷ []) z) ≡ true → lacks c ((done ++ b ∷ []) ++ z) ≡ true) → lacks c (done ++ b ∷ z) ≡ true
    by true f e more other =
        let p = and_parts (is_name done) (list_all is_name (parts_from [] z)) e in
        let dot : b ≡ 46 = eqb-true b 46 f in
        let rest : lacks c (46 ∷ z) ≡ true = ap (λ (t : Bool). t && lacks c z) g ∙ more p.1 in
        both_lack c done (b ∷ z) (name_lacks c done h p.0) (ap (λ (d : ℕ). lacks c (d ∷ z)) dot ∙ rest)
    by false f e more other = ap (lacks c) (sym (append_assoc done (b ∷ []) z)) ∙ other e

named_lacks : (m : Model) (c i : ℕ) → IsOutside c → not (46 == c) ≡ true → has_name m i ≡ true → lacks c (get_or m.names i []) ≡ true
named_lacks m c i h g e = by (slice_get m.names i) refl e
  where
    by : (o : Option Text) → slice_get m.names i ≡ o → elim o [ Some t ↦ list_all is_name (parts_from [] t) | None ↦ false ] ≡ true → lacks c (get_or m.names i []) ≡ true
    by None f e = cc
    by (Some t) f e = ap (lacks c) (get_or_from_slice_get m.names i t [] f) ∙ dotted_lack c [] t h g e

all_left : (p : ℕ → Bool) (is js : List ℕ) → list_all p (is ++ js) ≡ true → list_all p is ≡ true
all_left p [] js e = refl
all_left p (i ∷ is) js e = let q = and_parts (p i) (list_all p (is ++ js)) e in ap (λ (t : Bool). t && list_all p is) q.0 ∙ all_left p is js q.1

-- ---- one line

part_line : (m : Model) (x : Var) (i : ℕ) → IsFormedVar m x → has_name m x.name ≡ true → i < length x.values → lacks 10 (state_part (shown m.names x) i) ≡ true
part_line m x i f named h =
    let name = named_lacks m 10 x.name line_end_outside refl named in
    let value : lacks 10 (get_or (map (value_text m.names) x.values) i []) ≡ true =
    ap (lacks 10) (mapped m.names x.values i h)
    ∙ value_lacks m 10 (get_or x.values i (v.Bool false)) (omega arith) line_end_outside (all_at (is_symbol m) x.values i (v.Bool false) f.symbols h) in
    both_lack 10 (get_or m.names x.name [] ++ codes "=") (get_or (map (value_text m.names) x.values) i []) (both_lack 10 (get_or m.names x.name []) (codes "=") name refl) value

parts_line : (m : Model) (xs : List Var) (s : List ℕ) (mark : Text) → AreFormed m xs → list_all (has_name m) (map (λ (x : Var). x.name) xs) ≡ true → fits xs s ≡ true
    → lacks 10 mark ≡ true → lacks 10 (marked mark (state_parts (map (shown m.names) xs) s)) ≡ true
parts_line m [] s mark f named h g = refl
parts_line m (x ∷ xs) [] mark f named h g = refl
parts_line m (x ∷ xs) (i ∷ s) mark f named h g =
    let p = and_parts (has_name m x.name) (list_all (has_name m) (map (λ (y : Var). y.name) xs)) named in
    let q = and_parts (nat_lt i (length x.values)) (fits xs s) h in
    let part = part_line m x i f.0 p.0 (ltb-true i (length x.values) q.0) in
    both_lack 10 (mark ++ state_part (shown m.names x) i) (marked (codes ",") (state_parts (map (shown m.names) xs) s))
    (both_lack 10 mark (state_part (shown m.names x) i) g part) (parts_line m xs s (codes ",") f.1 p.1 q.1 refl)

vars_line : (m : Model) (xs : List Var) (s : List ℕ) → lacks 10 (marked [] (state_parts (map (shown m.names) xs) s)) ≡ true → lacks 10 (state_text (map (shown m.names) xs) s) ≡ true
vars_line m [] s h = refl
vars_line m (x ∷ xs) [] h = refl
vars_line m (x ∷ xs) (i ∷ s) h = ap (lacks 10) (sym (marked-joined (state_parts (map (shown m.names) (x ∷ xs)) (i ∷ s)))) ∙ h

pub one_line : (m : Model) (s : State) → IsWellFormed m → IsTrue (is_typed m s) → lacks 10 (state_text (shown_vars m) s) ≡ true
one_line m s w typed =
    vars_line m m.vars s
    (parts_line m m.vars s [] (formed m w) (all_left (has_name m) (map (λ (x : Var). x.name) m.vars) (map (λ (d : Define). d.name) m.defines) w.names) typed refl)

-- ---- no other word

-- a byte stands in a text
stands : (c : ℕ) (y z : Text) → lacks c (y ++ c ∷ z) ≡ false
stands c y z = lacks-append c y (c ∷ z) ∙ ap (λ (t : Bool). lacks c y && (not t && lacks c z)) ((Decides-eqb c c).1 refl) ∙ none (lacks c y)
  where
    none : (t : Bool) → (t && false) ≡ false
    none true = refl
    none false = refl

joined_front : (t : Text) (ts : List Text) (c : ℕ) → lacks c t ≡ false → lacks c (comma_joined (t ∷ ts)) ≡ false
joined_front t [] c h = h
joined_front t (u ∷ us) c h = lacks-append c t (44 ∷ comma_joined (u ∷ us)) ∙ ap (λ (b : Bool). b && lacks c (44 ∷ comma_joined (u ∷ us))) h

part_equals : (name value : Text) → lacks 61 (name ++ codes "=" ++ value) ≡ false
part_equals name value = ap (lacks 61) (append_assoc name (codes "=") value) ∙ stands 61 name value

-- the text of a state is `all`, or `=` stands in it
pub no_word : (m : Model) (s : State) (word : Text) → IsTrue (is_typed m s) → word ≢ codes "all" → lacks 61 word ≡ true → state_text (shown_vars m) s ≢ word
no_word m s word typed other lack e = by m.vars s typed e
  where
    by : (xs : List Var) (s : List ℕ) → fits xs s ≡ true → state_text (map (shown m.names) xs) s ≡ word → ⊥
    by [] s h e = other (sym e)
    by (x ∷ xs) [] h e = cc
    by (x ∷ xs) (i ∷ s) h e =
        let equals : lacks 61 (state_text (map (shown m.names) (x ∷ xs)) (i ∷ s)) ≡ false =
        joined_front (state_part (shown m.names x) i) (state_parts (map (shown m.names) xs) s) 61
        (part_equals (get_or m.names x.name []) (get_or (map (value_text m.names) x.values) i [])) in
        let none : true ≡ false = sym lack ∙ ap (lacks 61) (sym e) ∙ equals in
        cc

pub no_turn : (m : Model) (s : State) → IsTrue (is_typed m s) → state_text (shown_vars m) s ≢ codes "turn"
no_turn m s typed = no_word m s (codes "turn") typed (λ e. cc) refl

pub no_end : (m : Model) (s : State) → IsTrue (is_typed m s) → state_text (shown_vars m) s ≢ codes "end"
no_end m s typed = no_word m s (codes "end") typed (λ e. let first : 101 ≡ 97 = ap (λ (z : Text). get_or z 0 0) e in absurd (omega arith)) refl
