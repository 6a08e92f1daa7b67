-- The first state of a set, variable by variable.
use Rattle.std.proofs.Common.{◌≡◌, ◌≢◌, ℕ, zero, suc, ◌<◌, ◌≤◌, ◌+◌, ◌⊎◌, inl, inr, if◌then◌else◌, List, [], ◌∷◌, ◌++◌, Bool, true, false, length, drop, get_or, IsTrue, Option, Some, None, refl, sym, ◌∙◌, ap, arith, subst, append_assoc}
use Rattle.std.proofs.lemmas.List.{drop_all, append-nil}
use Rattle.cov_bits.specs.Layout.{first}
use Rattle.cov_bits.proofs.Encoding.{bits_more}
use Rattle.cov_classes.specs.Cubes.{Set, rest}
use Rattle.cov_classes.specs.Partition.{is_typed, first_state, IsFirst}
use Rattle.cov_classes.proofs.Listing.{at_or_after}
use Rattle.cov_classes.proofs.Firsts as listed
use Rattle.cov_space.specs.declared.layer.Layer.TheVariants.{V}
use Rattle.cov_fields.specs.Fields.{field_of}
use Rattle.cov_fields.specs.Sets.{rest_set, IsEmpty}
use Rattle.cov_cubes.specs.States.{states_from}
use Rattle.cov_cubes.specs.Rests.{IsRest, IsRestOf, IsLeast, AllEmpty, states_of, after}
use Rattle.cov_cubes.proofs.Rests.{rest_joins, rest_is, empty_states, states_empty}
use Rattle.cov_cubes.proofs.Sizes.{drop_next}

-- ---- sets of states

pub truth_false : (b : Bool) → (IsTrue b → ⊥) → b ≡ false
truth_false true h = absurd (h (cc))
truth_false false h = refl

pub true_false : (b : Bool) → b ≡ false → IsTrue b → ⊥
true_false true e h = cc
true_false false e h = cc

-- the first state of a set without states
pub first_empty : (ns : List ℕ) (set : Set) → ((s : List ℕ) → IsTrue (is_typed ns s) → set s ≡ false) → first_state ns set ≡ None
first_empty ns set none = by (first_state ns set) (listed.first ns set)
  where
    by : (o : Option (List ℕ)) → IsFirst ns set o → o ≡ None
    by None h = refl
    by (Some s) h = absurd (true_false (set s) (none s h.0) h.1)

pub empty_first : (ns : List ℕ) (set : Set) → first_state ns set ≡ None → (s : List ℕ) → IsTrue (is_typed ns s) → set s ≡ false
empty_first ns set e s typed = by (first_state ns set) (listed.first ns set) e
  where
    by : (o : Option (List ℕ)) → IsFirst ns set o → o ≡ None → set s ≡ false
    by None h e = truth_false (set s) (h s typed)
    by (Some t) h e = cc

-- the first state has the least value of the first variable with a rest set that has a state
at_value : (ns : List ℕ) (set : Set) (a n v : ℕ) → a ≤ v → v < a + n → ((w : ℕ) → w < v → first_state ns (rest set w) ≡ None) → first_state ns (rest set v) ≢ None
    → listed.first_from ns set a n ≡ listed.fronted v (first_state ns (rest set v))
at_value ns set a zero v lo hi none some = absurd (omega arith)
at_value ns set a (suc n) v lo hi none some = by (at_or_after a v lo) (λ lt. at_value ns set (a + 1) n v (omega arith) (omega arith) none some)
  where
    here : (o : Option (List ℕ)) (x : Option (List ℕ)) → o ≢ None → listed.or_else (listed.fronted v o) x ≡ listed.fronted v o
    here None x ne = absurd (ne refl)
    here (Some s) x ne = refl

    by : (a ≡ v) ⊎ (a < v) → (a < v → listed.first_from ns set (a + 1) n ≡ listed.fronted v (first_state ns (rest set v))) → listed.or_else (listed.fronted a (first_state ns (rest set a))) (listed.first_from ns set (a + 1) n) ≡ listed.fronted v (first_state ns (rest set v))
    by (inl e) go = ap (λ w. listed.or_else (listed.fronted w (first_state ns (rest set w))) (listed.first_from ns set (a + 1) n)) e ∙ here (first_state ns (rest set v)) (listed.first_from ns set (a + 1) n) some
    by (inr lt) go = ap (λ (o : Option (List ℕ)). listed.or_else (listed.fronted a o) (listed.first_from ns set (a + 1) n)) (none a lt) ∙ go lt

-- ---- rest sets of variables

-- what is a rest set of a variable's value is one of the remaining variables
pub rest_next : (levels : ℕ) (ns : List ℕ) (x v : ℕ) (set : List Bool) → x < length ns → IsRestOf levels ns x set → v < get_or ns x 0 → IsRestOf levels ns (x + 1) (rest_set levels (field_of ns x V) v set)
rest_next levels ns x v set lx is lt =
    let P : List ℕ → Type 0 = λ ms. IsRest levels (first ns x) ms set in
    subst (λ k. IsRest levels k (drop (x + 1) ns) (rest_set levels (field_of ns x V) v set)) (sym (bits_more ns x lx))
    (rest_is levels (first ns x) (get_or ns x 0) v (drop (x + 1) ns) set (subst P (drop_next ns x lx) is) lt)

-- with these states
pub states_next : (levels : ℕ) (ns : List ℕ) (x v : ℕ) (set : List Bool) → x < length ns → IsRestOf levels ns x set
    → states_of levels ns (x + 1) (rest_set levels (field_of ns x V) v set) ≡ rest (states_of levels ns x set) v
states_next levels ns x v set lx is =
    let P : List ℕ → Type 0 = λ ms. IsRest levels (first ns x) ms set in
    let head : IsRest levels (first ns x) (get_or ns x 0 ∷ drop (x + 1) ns) set = subst P (drop_next ns x lx) is in
    ap (λ k. states_from k (drop (x + 1) ns) levels (rest_set levels (field_of ns x V) v set)) (bits_more ns x lx)
    ∙ rest_joins levels (first ns x) (get_or ns x 0) v (drop (x + 1) ns) set head.there
    ∙ ap (λ (ms : List ℕ). rest (states_from (first ns x) ms levels set) v) (sym (drop_next ns x lx))

empty_value : (levels : ℕ) (ns : List ℕ) (x v : ℕ) (set : List Bool) → x < length ns → IsRestOf levels ns x set → v < get_or ns x 0
    → IsEmpty levels (rest_set levels (field_of ns x V) v set) → first_state (drop (x + 1) ns) (rest (states_of levels ns x set) v) ≡ None
empty_value levels ns x v set lx is lt empty =
    let r : List Bool = rest_set levels (field_of ns x V) v set in
    ap (first_state (drop (x + 1) ns)) (sym (states_next levels ns x v set lx is))
    ∙ first_empty (drop (x + 1) ns) (states_of levels ns (x + 1) r) (λ s typed. empty_states levels (first ns (x + 1)) (drop (x + 1) ns) r (rest_next levels ns x v set lx is lt) empty s)

value_empty : (levels : ℕ) (ns : List ℕ) (x v : ℕ) (set : List Bool) → x < length ns → IsRestOf levels ns x set → v < get_or ns x 0
    → first_state (drop (x + 1) ns) (rest (states_of levels ns x set) v) ≡ None → IsEmpty levels (rest_set levels (field_of ns x V) v set)
value_empty levels ns x v set lx is lt e =
    let r : List Bool = rest_set levels (field_of ns x V) v set in
    states_empty levels (first ns (x + 1)) (drop (x + 1) ns) r (rest_next levels ns x v set lx is lt)
    (empty_first (drop (x + 1) ns) (states_of levels ns (x + 1) r) (ap (first_state (drop (x + 1) ns)) (states_next levels ns x v set lx is) ∙ e))

-- the first state begins with the least value
first_value : (levels : ℕ) (ns : List ℕ) (x v : ℕ) (set : List Bool) → x < length ns → IsRestOf levels ns x set → IsLeast levels (field_of ns x V) set (get_or ns x 0) v
    → first_state (drop x ns) (states_of levels ns x set) ≡ listed.fronted v (first_state (drop (x + 1) ns) (states_of levels ns (x + 1) (rest_set levels (field_of ns x V) v set)))
first_value levels ns x v set lx is least =
    let n : ℕ = get_or ns x 0 in
    let ms : List ℕ = drop (x + 1) ns in
    let t : Set = states_of levels ns x set in
    let below : v < get_or ns x 0 = least.below in
    ap (λ (l : List ℕ). first_state l t) (drop_next ns x lx)
    ∙ listed.by_values ms t 0 n
    ∙ at_value ms t 0 n v (omega arith) (omega arith) (λ w lt. empty_value levels ns x w set lx is (omega arith) (least.none w lt)) (λ e. least.some (value_empty levels ns x v set lx is below e))
    ∙ ap (λ (f : Set). listed.fronted v (first_state ms f)) (sym (states_next levels ns x v set lx is))

-- ---- the loop

after_more : (front : List ℕ) (v : ℕ) (o : Option (List ℕ)) → after front (listed.fronted v o) ≡ after (front ++ v ∷ []) o
after_more front v None = refl
after_more front v (Some s) = ap (λ (l : List ℕ). Some l) (sym (append_assoc front (v ∷ []) s))

-- one variable more
pub first_turn : (levels : ℕ) (ns : List ℕ) (x v : ℕ) (set : List Bool) (front : List ℕ) (whole : Option (List ℕ)) → x < length ns → IsRestOf levels ns x set → IsLeast levels (field_of ns x V) set (get_or ns x 0) v
    → after front (first_state (drop x ns) (states_of levels ns x set)) ≡ whole
    → after (front ++ v ∷ []) (first_state (drop (x + 1) ns) (states_of levels ns (x + 1) (rest_set levels (field_of ns x V) v set))) ≡ whole
first_turn levels ns x v set front whole lx is least e =
    sym (after_more front v (first_state (drop (x + 1) ns) (states_of levels ns (x + 1) (rest_set levels (field_of ns x V) v set))))
    ∙ ap (after front) (sym (first_value levels ns x v set lx is least)) ∙ e

none_from : (ns : List ℕ) (set : Set) (a n : ℕ) → ((w : ℕ) → w < a + n → first_state ns (rest set w) ≡ None) → listed.first_from ns set a n ≡ None
none_from ns set a zero none = refl
none_from ns set a (suc n) none =
    ap (λ (o : Option (List ℕ)). listed.or_else (listed.fronted a o) (listed.first_from ns set (a + 1) n)) (none a (omega arith)) ∙ none_from ns set (a + 1) n (λ w lt. none w (omega arith))

-- no value is left
pub first_fails : (levels : ℕ) (ns : List ℕ) (x : ℕ) (set : List Bool) (front : List ℕ) (whole : Option (List ℕ)) → x < length ns → IsRestOf levels ns x set → AllEmpty levels (field_of ns x V) set (get_or ns x 0)
    → after front (first_state (drop x ns) (states_of levels ns x set)) ≡ whole → None ≡ whole
first_fails levels ns x set front whole lx is none e =
    let ms : List ℕ = drop (x + 1) ns in
    let t : Set = states_of levels ns x set in
    ap (after front) (sym (ap (λ (l : List ℕ). first_state l t) (drop_next ns x lx) ∙ listed.by_values ms t 0 (get_or ns x 0)
    ∙ none_from ms t 0 (get_or ns x 0) (λ w lt. let le : w < get_or ns x 0 = omega arith in empty_value levels ns x w set lx is le (none w le)))) ∙ e

-- all variables are fixed
pub first_ends : (levels : ℕ) (ns : List ℕ) (x : ℕ) (set : List Bool) (front : List ℕ) (whole : Option (List ℕ)) → length ns ≤ x → IsRestOf levels ns x set
    → after front (first_state (drop x ns) (states_of levels ns x set)) ≡ whole → (IsEmpty levels set → None ≡ whole) × ((IsEmpty levels set → ⊥) → Some front ≡ whole)
first_ends levels ns x set front whole le is e =
    let none : drop x ns ≡ [] = drop_all x ns le in
    let own : IsRest levels (first ns x) [] set = subst (λ (ms : List ℕ). IsRest levels (first ns x) ms set) none is in
    let t : Set = states_from (first ns x) [] levels set in
    let same : first_state [] t ≡ first_state (drop x ns) (states_of levels ns x set) = ap (λ (ms : List ℕ). first_state ms (states_from (first ns x) ms levels set)) (sym none) in (
      λ empty. ap (after front) (sym (first_empty [] t (λ s typed. empty_states levels (first ns x) [] set own empty s)) ∙ same) ∙ e,
      λ some. by (t []) refl (λ f. some (states_empty levels (first ns x) [] set own (only f))) ∙ ap (after front) same ∙ e,
    )
  where
    only : (states_from (first ns x) [] levels set) [] ≡ false → (s : List ℕ) → IsTrue (is_typed [] s) → states_from (first ns x) [] levels set s ≡ false
    only f [] typed = f
    only f (v ∷ s) typed = cc

    by : (b : Bool) → (states_from (first ns x) [] levels set) [] ≡ b → ((states_from (first ns x) [] levels set) [] ≡ false → ⊥) → Some front ≡ after front (first_state [] (states_from (first ns x) [] levels set))
    by false f ne = absurd (ne f)
    by true f ne = sym (ap (λ (o : Option (List ℕ)). after front o) (ap (λ b. if b then Some [] else None) f) ∙ ap (λ (l : List ℕ). Some l) (append-nil front))

-- no place stands before
pub after_none : (o : Option (List ℕ)) → after [] o ≡ o
after_none None = refl
after_none (Some s) = refl
