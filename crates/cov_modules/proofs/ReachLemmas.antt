-- The modules that a module contains at any depth, as a search finds them.
use Rattle.std.proofs.Common.{◌≡◌, ℕ, zero, suc, ◌+◌, ◌<◌, ◌≤◌, inl, inr, Bool, true, false, not, cond, ◌||◌, ◌==◌, List, [], ◌∷◌, ◌++◌, map, fold, find, length, take, get_or, Option, Some, None, is_none, refl, sym, ap, subst, ◌∙◌, arith, eqb}
use Rattle.std.specs.List.{list_any, IsDistinct}
use Rattle.std.specs.Option.{option_map_or}
use Rattle.std.proofs.lemmas.List.{take-append-le, take_more, take_all}
use Rattle.std.proofs.lemmas.Map.Made.{length-le_from_is_member}
use Rattle.cov_syntax.specs.declared.tree.Span.{Span}
use Rattle.cov_syntax.specs.declared.program.ModuleTree.{ModuleTree}
use Rattle.cov_syntax.specs.declared.program.Program.{Program}
use Rattle.cov_modules.specs.Names.{has, first, with_name}
use Rattle.cov_modules.specs.Modules.{module_names, module_named, Declaration, instances}
use Rattle.cov_modules.specs.ModuleFaults.{place_if, in_modules, unknown_place, unknown_module, instances_in, names_below, holds_module}
use Rattle.cov_modules.proofs.NameLemmas.{has-append, same-number, number-self}
use Rattle.cov_modules.proofs.FirstLemmas.{first-none-found}
use Rattle.cov_modules.proofs.HasLemmas.{or-left, or-right, or-split, same-test, any-more, any-map, has-at, fold-kept, fold-put, fold-only, fold-longer, fold-new, fold-rest, fold-distinct, distinct-nil, flipped, equal-numbers}
use Rattle.cov_modules.proofs.ModuleLemmas.{length-names}

-- ---- more levels hold no less

pub holds-more : (p : Program) (k n a b : ℕ) → k ≤ n → holds_module p k a b ≡ true → holds_module p n a b ≡ true
holds-more p zero zero a b le h = h
holds-more p zero (suc n) a b le h = or-left (a == b) (list_any (λ (d : Declaration). holds_module p n d.from.name b) (instances_in p a)) h
holds-more p (suc k) zero a b le h = absurd (omega arith)
holds-more p (suc k) (suc n) a b le h = elim (or-split (a == b) (list_any (λ (d : Declaration). holds_module p k d.from.name b) (instances_in p a)) h) [
  | inl e ↦ or-left (a == b) (list_any (λ (d : Declaration). holds_module p n d.from.name b) (instances_in p a)) e
  | inr e ↦ or-right (a == b) (list_any (λ (d : Declaration). holds_module p n d.from.name b) (instances_in p a))
      (any-more (λ (d : Declaration). holds_module p k d.from.name b) (λ (d : Declaration). holds_module p n d.from.name b) (instances_in p a) (λ d. holds-more p k n d.from.name b (omega arith)) e)
]

-- what a module declares, it holds one level below
declared-holds : (p : Program) (c y : ℕ) → has (names_below p c) y ≡ true → holds_module p 1 c y ≡ true
declared-holds p c y h =
    or-right (c == y) (list_any (λ (d : Declaration). d.from.name == y) (instances_in p c))
    (sym (any-map (λ i. i == y) (λ (d : Declaration). d.from.name) (instances_in p c)) ∙ h)

-- and so what a module declares that is held
pub holds-declared : (p : Program) (k a c y : ℕ) → holds_module p k a c ≡ true → has (names_below p c) y ≡ true → holds_module p (suc k) a y ≡ true
holds-declared p zero a c y h below = subst (λ x. holds_module p 1 x y ≡ true) (sym (same-number a c h)) (declared-holds p c y below)
holds-declared p (suc k) a c y h below = elim (or-split (a == c) (list_any (λ (d : Declaration). holds_module p k d.from.name c) (instances_in p a)) h) [
  | inl e ↦ subst (λ x. holds_module p (suc (suc k)) x y ≡ true) (sym (same-number a c e)) (holds-more p 1 (suc (suc k)) c y (omega arith) (declared-holds p c y below))
  | inr e ↦ or-right (a == y) (list_any (λ (d : Declaration). holds_module p (suc k) d.from.name y) (instances_in p a))
      (any-more (λ (d : Declaration). holds_module p k d.from.name c) (λ (d : Declaration). holds_module p (suc k) d.from.name y) (instances_in p a) (λ d g. holds-declared p k d.from.name c y g below) e)
]

-- ---- every declared type names a module

-- a module that is found, and its name among the names
named-known : (ms : List ModuleTree) (i : ℕ) → is_none (find (λ (m : ModuleTree). m.name.name == i) ms) ≡ not (has (map (λ (m : ModuleTree). m.name.name) ms) i)
named-known [] i = refl
named-known (m ∷ ms) i = known-by (m.name.name == i) (find (λ (m : ModuleTree). m.name.name == i) ms) (has (map (λ (m : ModuleTree). m.name.name) ms) i) (named-known ms i)
  where
    known-by : (b : Bool) (o : Option ModuleTree) (r : Bool) → is_none o ≡ not r → is_none (cond b (Some m) o) ≡ not (b || r)
    known-by true o r e = refl
    known-by false o r e = e

-- what is not so is
not-not : (b : Bool) → not b ≡ false → b ≡ true
not-not true e = refl
not-not false e = sym e

-- there is a module of the name
pub named-has : (p : Program) (i : ℕ) → is_none (module_named p i) ≡ false → has (module_names p) i ≡ true
named-has p i h = not-not (has (module_names p) i) (sym (named-known p.modules i) ∙ h)

-- a place that is not there
pub no-place : (b : Bool) (place : Span) → first (place_if b place ∷ []) ≡ None → b ≡ false
no-place true place e = absurd cc
no-place false place e = refl

-- the declarations of a list that have no fault name modules
known-in : (p : Program) (ds : List Declaration) (y : ℕ) → first (map (unknown_place p) ds) ≡ None → has (map (λ (d : Declaration). d.from.name) ds) y ≡ true → is_none (module_named p y) ≡ false
known-in p [] y n h = absurd cc
known-in p (d ∷ ds) y n h =
    let parts = head-none (is_none (module_named p d.from.name)) d.from.place (map (unknown_place p) ds) n in
    elim (or-split (d.from.name == y) (has (map (λ (d : Declaration). d.from.name) ds) y) h) [
      | inl e ↦ subst (λ z. is_none (module_named p z) ≡ false) (same-number d.from.name y e) parts.0
      | inr e ↦ known-in p ds y parts.1 e
    ]
  where
    head-none : (b : Bool) (place : Span) (r : List (Option Span)) → first (place_if b place ∷ r) ≡ None → (b ≡ false) × (first r ≡ None)
    head-none true place r e = absurd cc
    head-none false place r e = (refl, e)

module _ (p : Program) (none : in_modules p (unknown_module p) ≡ None) where
  known-by : (x y : ℕ) (o : Option ModuleTree) → o ≡ module_named p x → has (map (λ (d : Declaration). d.from.name) (option_map_or instances o [])) y ≡ true → is_none (module_named p y) ≡ false
  known-by x y None e h = absurd cc
  known-by x y (Some m) e h = known-in p (instances m) y (first-none-found (unknown_module p) (λ (m : ModuleTree). m.name.name == x) p.modules m (sym e) none) h

  -- what a module declares is the name of a module
  pub below-known : (x y : ℕ) → has (names_below p x) y ≡ true → has (module_names p) y ≡ true
  below-known x y h = named-has p y (known-by x y (module_named p x) refl h)

-- ---- the search

-- What a search knows: where it begins, that all that is found is held and is a module, and that the first ones have all that they declare among what is found.
pub record IsSearch (p : Program) (from : ℕ) (found : List ℕ) (next : ℕ) : Type 0 where
  pub start : has found from ≡ true
  pub sound : (x : ℕ) → has found x ≡ true → holds_module p (length found) from x ≡ true
  pub closed : (x y : ℕ) → has (take next found) x ≡ true → has (names_below p x) y ≡ true → has found y ≡ true
  pub known : (x : ℕ) → has found x ≡ true → has (module_names p) x ≡ true
  pub distinct : IsDistinct eqb found

-- it begins with the module itself
pub search-start : (p : Program) (from : ℕ) → has (module_names p) from ≡ true → IsSearch p from (from ∷ []) 0
search-start p from there = record {
  start = or-left (from == from) false (number-self from);
  sound = λ x h. holds-more p 0 1 from x (omega arith) (alone x h);
  closed = λ x y h. absurd cc;
  known = λ x h. subst (λ z. has (module_names p) z ≡ true) (same-number from x (alone x h)) there;
  distinct = fold-distinct (from ∷ []) [] distinct-nil;
}
  where
    alone : (x : ℕ) → has (from ∷ []) x ≡ true → (from == x) ≡ true
    alone x h = elim (or-split (from == x) false h) [ inl e ↦ e | inr n ↦ absurd cc ]

module _ (p : Program) (from : ℕ) (found : List ℕ) (next : ℕ) (s : IsSearch p from found next) (below : next < length found) (none : in_modules p (unknown_module p) ≡ None) where
  name : ℕ
  name = get_or found next 0

  after : List ℕ
  after = fold with_name found (names_below p name)

  here : has found name ≡ true
  unfolding name
  here = has-at found next below

  sound-next : (x : ℕ) → has after x ≡ true → holds_module p (length after) from x ≡ true
  unfolding after
  sound-next x h = elim (fold-new (names_below p name) found x h) [
    | inl old ↦ holds-more p (length found) (length after) from x (fold-longer (names_below p name) found) (s.sound x old)
    | inr longer ↦ elim (fold-only (names_below p name) found x h) [
      | inl new ↦ holds-more p (suc (length found)) (length after) from x (omega arith) (holds-declared p (length found) from name x (s.sound name here) new)
      | inr old ↦ holds-more p (length found) (length after) from x (omega arith) (s.sound x old)
    ]
  ]

  front-is : take (next + 1) after ≡ take next found ++ name ∷ []
  unfolding after name
  front-is =
      let rest = fold-rest (names_below p name) found in
      ap (take (next + 1)) rest.1 ∙ take-append-le (next + 1) found rest.0 (omega arith) ∙ take_more found next 0 below

  closed-next : (x y : ℕ) → has (take (next + 1) after) x ≡ true → has (names_below p x) y ≡ true → has after y ≡ true
  unfolding after
  closed-next x y h d = elim (or-split (has (take next found) x) (has (name ∷ []) x) (sym (has-append (take next found) (name ∷ []) x) ∙ sym (ap (λ xs. has xs x) front-is) ∙ h)) [
    | inl old ↦ fold-kept (names_below p name) found y (s.closed x y old d)
    | inr new ↦ elim (or-split (name == x) false new) [
      | inl e ↦ fold-put (names_below p name) found y (subst (λ z. has (names_below p z) y ≡ true) (sym (same-number name x e)) d)
      | inr n ↦ absurd cc
    ]
  ]

  -- one module further
  pub search-next : IsSearch p from (fold with_name found (names_below p (get_or found next 0))) (next + 1)
  unfolding after name
  search-next = record {
    start = fold-kept (names_below p name) found from s.start;
    sound = sound-next;
    closed = closed-next;
    known = λ x h. elim (fold-only (names_below p name) found x h) [ inl new ↦ below-known p none name x new | inr old ↦ s.known x old ];
    distinct = fold-distinct (names_below p name) found s.distinct;
  }

-- through one of the declarations
by-declaration : (p : Program) (k to : ℕ) (found : List ℕ) → ((y : ℕ) → has found y ≡ true → holds_module p k y to ≡ true → has found to ≡ true)
    → (ds : List Declaration) → list_any (λ (d : Declaration). holds_module p k d.from.name to) ds ≡ true → ((y : ℕ) → has (map (λ (d : Declaration). d.from.name) ds) y ≡ true → has found y ≡ true) → has found to ≡ true
by-declaration p k to found further [] any closed = absurd cc
by-declaration p k to found further (d ∷ ds) any closed = elim (or-split (holds_module p k d.from.name to) (list_any (λ (d : Declaration). holds_module p k d.from.name to) ds) any) [
  | inl h ↦ further d.from.name (closed d.from.name (or-left (d.from.name == d.from.name) (has (map (λ (d : Declaration). d.from.name) ds) d.from.name) (number-self d.from.name))) h
  | inr rest ↦ by-declaration p k to found further ds rest (λ y g. closed y (or-right (d.from.name == y) (has (map (λ (d : Declaration). d.from.name) ds) y) g))
]

module _ (p : Program) (from : ℕ) (found : List ℕ) (next : ℕ) (s : IsSearch p from found next) where
  -- no more is found than there are modules
  pub search-short : length found ≤ length p.modules
  search-short = subst (λ n. length found ≤ n) (length-names p.modules) (length-le_from_is_member equal-numbers found (module_names p) s.distinct (λ q h. flipped (module_names p) q ∙ s.known q (sym (flipped found q) ∙ h)))

  module _ (done : length found ≤ next) where
    complete : (k x to : ℕ) → has found x ≡ true → holds_module p k x to ≡ true → has found to ≡ true
    complete zero x to h e = subst (λ z. has found z ≡ true) (same-number x to e) h
    complete (suc k) x to h e = elim (or-split (x == to) (list_any (λ (d : Declaration). holds_module p k d.from.name to) (instances_in p x)) e) [
      | inl same ↦ subst (λ z. has found z ≡ true) (same-number x to same) h
      | inr any ↦ by-declaration p k to found (λ y. complete k y to) (instances_in p x) any (λ y g. s.closed x y (ap (λ xs. has xs x) (take_all next found done) ∙ h) g)
    ]

    -- what is found is what is held
    pub search-done : (to : ℕ) → has found to ≡ holds_module p (length p.modules) from to
    search-done to = same-test (has found to) (holds_module p (length p.modules) from to)
        (λ h. holds-more p (length found) (length p.modules) from to search-short (s.sound to h))
        (complete (length p.modules) from to s.start)
