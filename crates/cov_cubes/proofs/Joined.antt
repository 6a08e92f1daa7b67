-- The classes of equal diagrams are those of the definition.
use Rattle.std.proofs.Common.{◌≡◌, ℕ, zero, suc, ◌<◌, ◌≤◌, ◌+◌, ◌&&◌, ◌||◌, ◌++◌, not, if◌then◌else◌, List, [], ◌∷◌, Bool, true, false, IsTrue, length, map, drop, get_or, refl, sym, ◌∙◌, ap, ap₂, arith, subst}
use Rattle.std.specs.Prelude.{filter, nat_lt}
use Rattle.std.specs.List.{list_any, list_all, flat_map, range_with_len}
use Rattle.std.proofs.lemmas.List.{get_or_append_left, get_or_at}
use Rattle.std.proofs.lemmas.List.FromFn.{length-map-range_with_len, get_or-map-range_with_len}
use Rattle.cov_dd.specs.Need as dd
use Rattle.cov_bits.specs.Layout.{first}
use Rattle.cov_classes.specs.Cubes.{Set, values, states, rest, same_set, class_of, is_least}
use Rattle.cov_classes.specs.Partition.{is_typed}
use Rattle.cov_classes.proofs.Listing.{and_join, all_mapped, flat_all, range_all, at_state, is_below, same-refl, same_at}
use Rattle.cov_space.specs.declared.layer.Layer.TheVariants.{V}
use Rattle.cov_space.specs.Sets.{lies, set_at, SameSets}
use Rattle.cov_space.specs.Operations.{constant_set}
use Rattle.cov_space.proofs.Sets.{values_lies, same_sets}
use Rattle.cov_space.proofs.Members.{lies-constant_set}
use Rattle.cov_fields.specs.declared.field.Field.{Field}
use Rattle.cov_fields.specs.Fields.{field_of, written}
use Rattle.cov_fields.specs.Sets.{rest_set, IsEmpty}
use Rattle.cov_cubes.specs.Rests.{IsRestOf, states_of}
use Rattle.cov_cubes.specs.Steps.{equal_sets, rests, alike, is_new, class_by, classes_by, has_none, classes_of}
use Rattle.cov_cubes.proofs.Rests.{empty_states, states_empty, states_same}
use Rattle.cov_cubes.proofs.Firsts.{rest_next, states_next}
use Rattle.cov_cubes.proofs.Equal.{bool_same, equal_refl, equal_true}

-- ---- loops that agree at each value

pub range_flat : {X : Type 0} (f g : ℕ → List X) (a n : ℕ) → ((v : ℕ) → a ≤ v → v < a + n → f v ≡ g v) → flat_map f (range_with_len a n) ≡ flat_map g (range_with_len a n)
range_flat f g a zero h = refl
range_flat f g a (suc n) h = ap₂ ◌++◌ (h a (omega arith) (omega arith)) (range_flat f g (a + 1) n (λ v lo hi. h v (omega arith) (omega arith)))

pub range_filter : (p q : ℕ → Bool) (a n : ℕ) → ((v : ℕ) → a ≤ v → v < a + n → p v ≡ q v) → filter p (range_with_len a n) ≡ filter q (range_with_len a n)
range_filter p q a zero h = refl
range_filter p q a (suc n) h =
    ap (λ b. if b then a ∷ filter p (range_with_len (a + 1) n) else filter p (range_with_len (a + 1) n)) (h a (omega arith) (omega arith))
    ∙ ap (λ (l : List ℕ). if q a then a ∷ l else l) (range_filter p q (a + 1) n (λ v lo hi. h v (omega arith) (omega arith)))

pub range_any : (p q : ℕ → Bool) (a n : ℕ) → ((v : ℕ) → a ≤ v → v < a + n → p v ≡ q v) → list_any p (range_with_len a n) ≡ list_any q (range_with_len a n)
range_any p q a zero h = refl
range_any p q a (suc n) h =
    ap (λ b. b || list_any p (range_with_len (a + 1) n)) (h a (omega arith) (omega arith)) ∙ ap (λ b. q a || b) (range_any p q (a + 1) n (λ v lo hi. h v (omega arith) (omega arith)))

-- ---- states

-- what each typed state has, all states have
pub states_all : (ns : List ℕ) (p : List ℕ → Bool) → ((s : List ℕ) → IsTrue (is_typed ns s) → IsTrue (p s)) → IsTrue (list_all p (states ns))
states_all [] p h = and_join (p []) true (h [] (cc)) (cc)
states_all (n ∷ ns) p h =
    flat_all p (λ v. map (λ s. v ∷ s) (states ns)) (values n) (range_all (λ v. list_all p (map (λ s. v ∷ s) (states ns))) 0 n (λ v lo hi.
    let lt : v < n = omega arith in
    subst IsTrue (sym (all_mapped p (λ s. v ∷ s) (states ns))) (states_all ns (λ s. p (v ∷ s)) (λ s t. h (v ∷ s) (and_join (nat_lt v n) (is_typed ns s) (is_below v n lt) t)))))

not_true : (b : Bool) → b ≡ false → IsTrue (not b)
not_true true e = cc
not_true false e = cc

true_not : (b : Bool) → IsTrue (not b) → b ≡ false
true_not true h = cc
true_not false h = refl

pub none_typed : (ns : List ℕ) (set : Set) → IsTrue (has_none ns set) → (s : List ℕ) → IsTrue (is_typed ns s) → set s ≡ false
none_typed ns set h s typed = true_not (set s) (at_state ns (λ x. not (set x)) s h typed)

-- ---- the rest sets of two values

proper_rest : (levels : ℕ) (f : Field) (v : ℕ) (set : List Bool) → dd.values levels (lies (rest_set levels f v set)) ≡ rest_set levels f v set
proper_rest levels f v set = values_lies levels (λ row. lies set (written f v row))

rests_same : (levels : ℕ) (ns : List ℕ) (x v w : ℕ) (set : List Bool) → x < length ns → IsRestOf levels ns x set → v < get_or ns x 0 → w < get_or ns x 0
    → equal_sets (rest_set levels (field_of ns x V) v set) (rest_set levels (field_of ns x V) w set) ≡ same_set (drop (x + 1) ns) (rest (states_of levels ns x set) v) (rest (states_of levels ns x set) w)
rests_same levels ns x v w set lx is lv lw =
    let f : Field = field_of ns x V in
    let ms : List ℕ = drop (x + 1) ns in
    let t : Set = states_of levels ns x set in
    let a : List Bool = rest_set levels f v set in
    let b : List Bool = rest_set levels f w set in
    let at_v : states_of levels ns (x + 1) a ≡ rest t v = states_next levels ns x v set lx is in
    let at_w : states_of levels ns (x + 1) b ≡ rest t w = states_next levels ns x w set lx is in
    bool_same (equal_sets a b) (same_set ms (rest t v) (rest t w))
    (λ h.
    let e : rest t v ≡ rest t w = sym at_v ∙ ap (states_of levels ns (x + 1)) (equal_true a b h) ∙ at_w in
    subst (λ (u : Set). IsTrue (same_set ms (rest t v) u)) e (same-refl ms (rest t v)))
    (λ h.
    let s : SameSets levels a b = states_same levels (first ns (x + 1)) ms a b (rest_next levels ns x v set lx is lv) (rest_next levels ns x w set lx is lw)
    (λ s typed. ap (λ (u : Set). u s) at_v ∙ same_at ms (rest t v) (rest t w) s h typed ∙ ap (λ (u : Set). u s) (sym at_w)) in
    subst (λ (z : List Bool). IsTrue (equal_sets a z)) (same_sets levels a b (proper_rest levels f v set) (proper_rest levels f w set) s) (equal_refl a))

rests_none : (levels : ℕ) (ns : List ℕ) (x v : ℕ) (set : List Bool) → x < length ns → IsRestOf levels ns x set → v < get_or ns x 0
    → equal_sets (rest_set levels (field_of ns x V) v set) (constant_set levels false) ≡ has_none (drop (x + 1) ns) (rest (states_of levels ns x set) v)
rests_none levels ns x v set lx is lv =
    let f : Field = field_of ns x V in
    let ms : List ℕ = drop (x + 1) ns in
    let t : Set = states_of levels ns x set in
    let a : List Bool = rest_set levels f v set in
    let none : List Bool = constant_set levels false in
    let at_v : states_of levels ns (x + 1) a ≡ rest t v = states_next levels ns x v set lx is in
    bool_same (equal_sets a none) (has_none ms (rest t v))
    (λ h.
    let empty : IsEmpty levels a = λ r len. ap (λ (z : List Bool). lies z r) (equal_true a none h) ∙ lies-constant_set levels false r len in
    states_all ms (λ s. not (rest t v s)) (λ s typed. not_true (rest t v s) (ap (λ (u : Set). u s) (sym at_v) ∙ empty_states levels (first ns (x + 1)) ms a (rest_next levels ns x v set lx is lv) empty s)))
    (λ h.
    let empty : IsEmpty levels a = states_empty levels (first ns (x + 1)) ms a (rest_next levels ns x v set lx is lv) (λ s typed. ap (λ (u : Set). u s) at_v ∙ none_typed ms (rest t v) h s typed) in
    subst (λ (z : List Bool). IsTrue (equal_sets a z)) (same_sets levels a none (proper_rest levels f v set) (values_lies levels (λ row. false)) (λ r len. empty r len ∙ sym (lies-constant_set levels false r len))) (equal_refl a))

-- ---- the sets that stand

rest_at : (levels : ℕ) (f : Field) (set : List Bool) (n v : ℕ) → v < n → set_at (rests levels f set n) (0 + v) ≡ rest_set levels f v set
rest_at levels f set n v lt =
    let m : List (List Bool) = map (λ w. rest_set levels f w set) (values n) in
    let long : length (map (λ w. rest_set levels f w set) (values n)) ≡ n = length-map-range_with_len (λ w. rest_set levels f w set) 0 n in
    let own : 0 + v ≡ v = omega arith in
    ap (set_at (rests levels f set n)) own ∙ get_or_append_left m (constant_set levels false ∷ []) [] v (omega arith) ∙ get_or-map-range_with_len (λ w. rest_set levels f w set) 0 n v v [] lt own

empty_at : (levels : ℕ) (f : Field) (set : List Bool) (n : ℕ) → set_at (rests levels f set n) (0 + n) ≡ constant_set levels false
empty_at levels f set n =
    let own : 0 + n ≡ n = omega arith in
    ap (set_at (rests levels f set n)) own ∙ get_or_at (map (λ w. rest_set levels f w set) (values n)) (constant_set levels false) [] [] n (length-map-range_with_len (λ w. rest_set levels f w set) 0 n)

pub classes_are : (levels : ℕ) (ns : List ℕ) (x : ℕ) (set : List Bool) → x < length ns → IsRestOf levels ns x set
    → classes_by (alike (rests levels (field_of ns x V) set (get_or ns x 0)) 0) (get_or ns x 0) ≡ classes_of (get_or ns x 0) (drop (x + 1) ns) (states_of levels ns x set)
classes_are levels ns x set lx is =
    let f : Field = field_of ns x V in
    let n : ℕ = get_or ns x 0 in
    let ms : List ℕ = drop (x + 1) ns in
    let t : Set = states_of levels ns x set in
    let same : ℕ → ℕ → Bool = alike (rests levels f set n) 0 in
    let at : (v w : ℕ) → v < get_or ns x 0 → w < get_or ns x 0 → alike (rests levels f set n) 0 v w ≡ same_set ms (rest t v) (rest t w) = λ v w lv lw.
    ap₂ equal_sets (rest_at levels f set n v lv) (rest_at levels f set n w lw) ∙ rests_same levels ns x v w set lx is lv lw in
    let none : (v : ℕ) → v < get_or ns x 0 → alike (rests levels f set n) 0 v n ≡ has_none ms (rest t v) = λ v lv.
    ap₂ equal_sets (rest_at levels f set n v lv) (empty_at levels f set n) ∙ rests_none levels ns x v set lx is lv in
    range_flat (λ v. if is_new same v && not (same v n) then class_by same n v ∷ [] else []) (λ v. if is_least ms t v && not (has_none ms (rest t v)) then class_of n ms t v ∷ [] else []) 0 n (λ v lo hi.
    let lv : v < get_or ns x 0 = omega arith in
    let new : is_new same v ≡ is_least ms t v = ap not (range_any (λ w. same v w) (λ w. same_set ms (rest t v) (rest t w)) 0 v (λ w lo' hi'. at v w lv (omega arith))) in
    let class : class_by same n v ≡ class_of n ms t v = range_filter (λ w. same v w) (λ w. same_set ms (rest t v) (rest t w)) 0 n (λ w lo' hi'. at v w lv (omega arith)) in
    ap (λ b. if b && not (same v n) then class_by same n v ∷ [] else []) new
    ∙ ap (λ b. if is_least ms t v && not b then class_by same n v ∷ [] else []) (none v lv)
    ∙ ap (λ (k : List ℕ). if is_least ms t v && not (has_none ms (rest t v)) then k ∷ [] else []) class)
