-- Where no module contains itself, the walk from a stop has levels enough: it is the stop, and the walks from those right below it.
use Rattle.std.proofs.Common.{◌≡◌, ℕ, zero, suc, ◌+◌, ◌<◌, ◌≤◌, inl, inr, Bool, true, false, cond, ◌==◌, eqb, List, [], ◌∷◌, ◌++◌, map, find, length, Option, Some, None, is_none, refl, sym, ap, subst, ◌∙◌, arith}
use Rattle.std.specs.List.{list_any, flat_map, IsDistinct, AllByRecursion}
use Rattle.std.specs.Option.{option_map_or}
use Rattle.std.proofs.lemmas.Bool.Decides.{nat_tests}
use Rattle.std.proofs.lemmas.Map.Keys.{IsDistinct-cons}
use Rattle.std.proofs.lemmas.Map.Made.{length-le_from_is_member}
use Rattle.cov_syntax.specs.declared.program.ModuleTree.{ModuleTree}
use Rattle.cov_syntax.specs.declared.program.Program.{Program}
use Rattle.cov_modules.specs.Names.{has, first}
use Rattle.cov_modules.specs.Modules.{module_names, module_named, Declaration, instances}
use Rattle.cov_modules.specs.Things.{Instance}
use Rattle.cov_modules.specs.Walk.{arguments, Stop, stop_in, stops_below, walk_from}
use Rattle.cov_modules.specs.ModuleFaults.{in_modules, recursive_place, recursive_module, instances_in, names_below, holds_module}
use Rattle.cov_modules.proofs.NameLemmas.{same-number, number-self}
use Rattle.cov_modules.proofs.FirstLemmas.{first-none-found}
use Rattle.cov_modules.proofs.HasLemmas.{or-left, or-right, or-split, any-more, any-map, flipped, equal-numbers, distinct-nil}
use Rattle.cov_modules.proofs.ModuleLemmas.{length-names}
use Rattle.cov_modules.proofs.ReachLemmas.{holds-more, holds-declared, named-has}
use Rattle.cov_modules.proofs.WalkLemmas.{none-head}
use Rattle.cov_stops.specs.Touring.{walk_at}

-- ---- lists

-- functions that agree on each item
pub flat-same : {A B : Type 0} → (f g : A → List B) (xs : List A) → AllByRecursion (λ x. f x ≡ g x) xs → flat_map f xs ≡ flat_map g xs
flat-same f g [] h = refl
flat-same f g (x ∷ xs) h = ap (λ ys. ys ++ flat_map f xs) h.0 ∙ ap (λ ys. g x ++ ys) (flat-same f g xs h.1)

-- what follows for each item
pub all-then : {A : Type 0} → (P Q : A → Type 0) → ((x : A) → P x → Q x) → (xs : List A) → AllByRecursion P xs → AllByRecursion Q xs
all-then P Q f [] h = tt
all-then P Q f (x ∷ xs) h = (f x h.0, all-then P Q f xs h.1)

-- both lists have it
pub all-append : {A : Type 0} → (P : A → Type 0) (xs ys : List A) → AllByRecursion P xs → AllByRecursion P ys → AllByRecursion P (xs ++ ys)
all-append P [] ys h g = g
all-append P (x ∷ xs) ys h g = (h.0, all-append P xs ys h.1 g)

-- a name that is not there differs from each
apart-from : (i : ℕ) (xs : List ℕ) → (has xs i ≡ true → ⊥) → AllByRecursion (λ j. eqb i j ≡ false) xs
apart-from i [] h = tt
apart-from i (x ∷ xs) h = (differs (x == i) refl, apart-from i xs (λ e. h (or-right (x == i) (has xs i) e)))
  where
    swapped : (a b : ℕ) → (a == b) ≡ false → eqb b a ≡ false
    swapped a b e = grind (arith, nat_tests)

    differs : (b : Bool) → (x == i) ≡ b → eqb i x ≡ false
    differs true e = absurd (h (or-left (x == i) (has xs i) e))
    differs false e = swapped x i e

-- an item that is found passes the test
pub found-named : (ms : List ModuleTree) (i : ℕ) (m : ModuleTree) → find (λ (m : ModuleTree). m.name.name == i) ms ≡ Some m → m.name.name ≡ i
found-named [] i m e = absurd cc
found-named (n ∷ ms) i m e = named-by n i m (n.name.name == i) refl (find (λ (m : ModuleTree). m.name.name == i) ms) (found-named ms i m) e
  where
    named-by : (n : ModuleTree) (i : ℕ) (m : ModuleTree) (b : Bool) → (n.name.name == i) ≡ b → (o : Option ModuleTree) → (o ≡ Some m → m.name.name ≡ i) → cond b (Some n) o ≡ Some m → m.name.name ≡ i
    named-by n i m true is o rest e = let same : n ≡ m = cc in subst (λ (k : ModuleTree). k.name.name ≡ i) same (same-number n.name.name i is)
    named-by n i m false is o rest e = rest e

-- ---- no circles

-- no declaration leads back
none-back : (p : Program) (m : ModuleTree) (ds : List Declaration) → first (map (recursive_place p m) ds) ≡ None → list_any (λ (d : Declaration). holds_module p (length p.modules) d.from.name m.name.name) ds ≡ true → ⊥
none-back p m [] e h = absurd cc
none-back p m (d ∷ ds) e h =
    let parts = none-head (holds_module p (length p.modules) d.from.name m.name.name) d.from.place (map (recursive_place p m) ds) e in
    elim (or-split (holds_module p (length p.modules) d.from.name m.name.name) (list_any (λ (d : Declaration). holds_module p (length p.modules) d.from.name m.name.name) ds) h) [
      | inl here ↦ (let not-here = parts.0 in absurd cc)
      | inr rest ↦ none-back p m ds parts.1 rest
    ]

module _ (p : Program) (none : in_modules p (recursive_module p) ≡ None) where
  back-by : (i : ℕ) (o : Option ModuleTree) → o ≡ module_named p i → list_any (λ (d : Declaration). holds_module p (length p.modules) d.from.name i) (option_map_or instances o []) ≡ true → ⊥
  back-by i None e h = absurd cc
  back-by i (Some m) e h =
      none-back p m (instances m) (first-none-found (recursive_module p) (λ (m : ModuleTree). m.name.name == i) p.modules m (sym e) none)
      (subst (λ j. list_any (λ (d : Declaration). holds_module p (length p.modules) d.from.name j) (instances m) ≡ true) (sym (found-named p.modules i m (sym e))) h)

  -- no module of a name leads back to it
  never-back : (i k : ℕ) → k ≤ length p.modules → list_any (λ (d : Declaration). holds_module p k d.from.name i) (instances_in p i) ≡ true → ⊥
  never-back i k le h = back-by i (module_named p i) refl (any-more (λ (d : Declaration). holds_module p k d.from.name i) (λ (d : Declaration). holds_module p (length p.modules) d.from.name i) (instances_in p i) (λ d. holds-more p k (length p.modules) d.from.name i le) h)

-- ---- chains of modules

-- Different modules, each of which leads to this one.
record IsAbove (p : Program) (above : List ℕ) (i : ℕ) : Type 0 where
  distinct : IsDistinct eqb above
  known : (x : ℕ) → has above x ≡ true → has (module_names p) x ≡ true
  leads : (x : ℕ) → has above x ≡ true → list_any (λ (d : Declaration). holds_module p (length above) d.from.name i) (instances_in p x) ≡ true

-- nothing is above
above-none : (p : Program) (i : ℕ) → IsAbove p [] i
above-none p i = record { distinct = distinct-nil; known = λ x h. absurd cc; leads = λ x h. absurd cc }

module _ (p : Program) (none : in_modules p (recursive_module p) ≡ None) (above : List ℕ) (i : ℕ) (a : IsAbove p above i) (here : has (module_names p) i ≡ true) where
  known-too : (x : ℕ) → has (i ∷ above) x ≡ true → has (module_names p) x ≡ true
  known-too x h = elim (or-split (i == x) (has above x) h) [
    | inl e ↦ subst (λ y. has (module_names p) y ≡ true) (same-number i x e) here
    | inr e ↦ a.known x e
  ]

  -- different modules are no more than there are
  not-more : (xs : List ℕ) → IsDistinct eqb xs → ((x : ℕ) → has xs x ≡ true → has (module_names p) x ≡ true) → length xs ≤ length p.modules
  not-more xs d k = subst (λ n. length xs ≤ n) (length-names p.modules) (length-le_from_is_member equal-numbers xs (module_names p) d (λ q h. flipped (module_names p) q ∙ k q (sym (flipped xs q) ∙ h)))

  distinct-too : IsDistinct eqb (i ∷ above)
  distinct-too = IsDistinct-cons eqb i above (apart-from i above (λ h. never-back p none i (length above) (not-more above a.distinct a.known) (a.leads i h))) a.distinct

  -- so there are fewer above
  fewer : length above < length p.modules
  fewer = let h : length (i ∷ above) ≤ length p.modules = not-more (i ∷ above) distinct-too known-too in omega arith

  -- one module further
  above-next : (j : ℕ) → has (names_below p i) j ≡ true → IsAbove p (i ∷ above) j
  above-next j below = record {
    distinct = distinct-too;
    known = known-too;
    leads = λ x h. elim (or-split (i == x) (has above x) h) [
      | inl e ↦ subst (λ y. list_any (λ (d : Declaration). holds_module p (suc (length above)) d.from.name j) (instances_in p y) ≡ true) (same-number i x e)
          (any-more (λ (d : Declaration). d.from.name == j) (λ (d : Declaration). holds_module p (suc (length above)) d.from.name j) (instances_in p i)
          (λ d. or-left (d.from.name == j) (list_any (λ (c : Declaration). holds_module p (length above) c.from.name j) (instances_in p d.from.name)))
          (sym (any-map (λ k. k == j) (λ (d : Declaration). d.from.name) (instances_in p i)) ∙ below))
      | inr e ↦ any-more (λ (d : Declaration). holds_module p (length above) d.from.name i) (λ (d : Declaration). holds_module p (suc (length above)) d.from.name j) (instances_in p x)
          (λ d g. holds-declared p (length above) d.from.name i j g below) (a.leads x e)
    ];
  }

-- ---- stops below a stop

-- A stop is of a module of the program, which a declaration in the module of this name names.
pub record IsBelow (p : Program) (i : ℕ) (c : Stop) : Type 0 where
  pub declared : has (names_below p i) c.here.from.name.name ≡ true
  pub named : module_named p c.here.from.name.name ≡ Some c.here.from

module _ (p : Program) (i : ℕ) (caller : Instance) where
  below-by : (d : Declaration) (o : Option ModuleTree) → o ≡ module_named p d.from.name → has (names_below p i) d.from.name ≡ true
      → AllByRecursion (IsBelow p i) (option_map_or (λ (m : ModuleTree). let at = caller.name ++ d.name.name ∷ [] in record {
        caller = caller;
        given = d.given;
        here = record { name = at; from = m; formals = arguments p caller at m.formals d.given };
      } ∷ []) o [])
  below-by d None e h = tt
  below-by d (Some m) e h =
      let is : m.name.name ≡ d.from.name = found-named p.modules d.from.name m (sym e) in
      (record { declared = subst (λ j. has (names_below p i) j ≡ true) (sym is) h; named = subst (λ j. module_named p j ≡ Some m) (sym is) (sym e) }, tt)

  below-all : (ds : List Declaration) → ((j : ℕ) → has (map (λ (d : Declaration). d.from.name) ds) j ≡ true → has (names_below p i) j ≡ true) → AllByRecursion (IsBelow p i) (flat_map (stop_in p caller) ds)
  below-all [] h = tt
  below-all (d ∷ ds) h =
      all-append (IsBelow p i) (stop_in p caller d) (flat_map (stop_in p caller) ds)
      (below-by d (module_named p d.from.name) refl (h d.from.name (or-left (d.from.name == d.from.name) (has (map (λ (d : Declaration). d.from.name) ds) d.from.name) (number-self d.from.name))))
      (below-all ds (λ j e. h j (or-right (d.from.name == j) (has (map (λ (d : Declaration). d.from.name) ds) j) e)))

-- all stops right below a stop of a module of the program
pub stops-below : (p : Program) (s : Stop) → module_named p s.here.from.name.name ≡ Some s.here.from → AllByRecursion (IsBelow p s.here.from.name.name) (stops_below p s)
stops-below p s named = below-all p s.here.from.name.name s.here (instances s.here.from)
    (λ j h. ap (λ o. has (map (λ (d : Declaration). d.from.name) (option_map_or instances o [])) j) named ∙ h)

-- ---- levels

-- a module of the program has its name among the names
named-known : (p : Program) (m : ModuleTree) → module_named p m.name.name ≡ Some m → has (module_names p) m.name.name ≡ true
named-known p m named = named-has p m.name.name (ap is_none named)

module _ (p : Program) (none : in_modules p (recursive_module p) ≡ None) where
  -- one more level changes nothing
  level-more : (k : ℕ) (above : List ℕ) (s : Stop) → IsAbove p above s.here.from.name.name → module_named p s.here.from.name.name ≡ Some s.here.from → length above + k ≡ length p.modules
      → walk_from p k s ≡ walk_from p (suc k) s
  level-more zero above s a named all = let few = fewer p none above s.here.from.name.name a (named-known p s.here.from named) in absurd (omega arith)
  level-more (suc k) above s a named all =
      ap (λ ys. s ∷ ys) (flat-same (walk_from p k) (walk_from p (suc k)) (stops_below p s)
      (all-then (IsBelow p s.here.from.name.name) (λ c. walk_from p k c ≡ walk_from p (suc k) c)
      (λ c b. level-more k (s.here.from.name.name ∷ above) c (above-next p none above s.here.from.name.name a (named-known p s.here.from named) c.here.from.name.name b.declared) b.named (omega arith))
      (stops_below p s) (stops-below p s named)))

  walk-by : (k : ℕ) (s : Stop) → k ≡ length p.modules → module_named p s.here.from.name.name ≡ Some s.here.from → walk_from p k s ≡ s ∷ flat_map (walk_from p k) (stops_below p s)
  walk-by zero s all named = let few = fewer p none [] s.here.from.name.name (above-none p s.here.from.name.name) (named-known p s.here.from named) in absurd (omega arith)
  walk-by (suc k) s all named =
      ap (λ ys. s ∷ ys) (flat-same (walk_from p k) (walk_from p (suc k)) (stops_below p s)
      (all-then (IsBelow p s.here.from.name.name) (λ c. walk_from p k c ≡ walk_from p (suc k) c)
      (λ c b. level-more k (s.here.from.name.name ∷ []) c (above-next p none [] s.here.from.name.name (above-none p s.here.from.name.name) (named-known p s.here.from named) c.here.from.name.name b.declared) b.named (omega arith))
      (stops_below p s) (stops-below p s named)))

  -- the walk from a stop is the stop, and the walks from those right below it
  pub walk-step : (s : Stop) → module_named p s.here.from.name.name ≡ Some s.here.from → walk_at p s ≡ s ∷ flat_map (walk_at p) (stops_below p s)
  walk-step s named = walk-by (length p.modules) s refl named
