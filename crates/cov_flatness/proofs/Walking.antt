-- The flat walk misses no instance: no module contains itself, so the levels are enough.
use Rattle.std.proofs.Common.{◌≡◌, ℕ, zero, suc, ◌+◌, ◌≤◌, inl, inr, Bool, true, false, cond, ◌==◌, eqb, List, [], ◌∷◌, ◌++◌, map, find, length, Option, Some, None, is_none, refl, sym, ap, subst, ◌∙◌, arith}
use Rattle.std.specs.List.{IsDistinct, AllByRecursion}
use Rattle.std.specs.Option.{option_map_or}
use Rattle.std.proofs.lemmas.Bool.{or_parts}
use Rattle.std.proofs.lemmas.Bool.Decides.{nat_tests}
use Rattle.std.proofs.lemmas.Map.Keys.{IsDistinct-cons}
use Rattle.std.proofs.lemmas.Map.Made.{length-le_from_is_member}
use Rattle.cov_syntax.specs.declared.tree.Span.{Span}
use Rattle.cov_syntax.specs.declared.program.ModuleTree.{ModuleTree}
use Rattle.cov_syntax.specs.declared.program.Program.{Program}
use Rattle.std.specs.Prelude.{codes}
use Rattle.std.specs.Str.{bytes_eq}
use Rattle.cov_modules.specs.Names.{has, text, first}
use Rattle.cov_modules.specs.Modules.{module_names, module_named, is_main, main_of, Declaration, instances}
use Rattle.cov_modules.specs.Things.{Instance}
use Rattle.cov_modules.specs.Walk.{arguments, Stop, stop_in, stops_below, walk_from, root, walk}
use Rattle.cov_modules.specs.ModuleFaults.{place_if, in_modules, names_below, holds_module, recursive_place, recursive_module, modules_fault}
use Rattle.cov_modules.proofs.FirstLemmas.{first-none-found}
use Rattle.cov_modules.proofs.NameLemmas.{same-number, number-self}
use Rattle.cov_modules.proofs.HasLemmas.{or-left, or-right, or-split, flipped, equal-numbers, distinct-nil}
use Rattle.cov_modules.proofs.ModuleLemmas.{length-names}
use Rattle.cov_modules.proofs.ReachLemmas.{holds-more, holds-declared, named-has}
use Rattle.cov_modules.proofs.LawLemmas.{has-no-fault, main-there}
use Rattle.cov_flatness.proofs.Among.{Among, among-flat, from-flat, among-map, among-found, found-passes, none-of}

-- the stop that a declaration makes of a module
abbrev pub made : Program → Instance → Declaration → ModuleTree → Stop
made p x d m = record {
  caller = x;
  given = d.given;
  here = record { name = x.name ++ d.name.name ∷ []; from = m; formals = arguments p x (x.name ++ d.name.name ∷ []) m.formals d.given };
}

-- How a stop stands right below an instance: by a declaration whose module is there.
pub record IsBelow (p : Program) (x : Instance) (t : Stop) : Type 0 where
  pub declaration : Declaration
  pub declared : Among (instances x.from) declaration
  pub tree : ModuleTree
  pub found : module_named p declaration.from.name ≡ Some tree
  pub is : made p x declaration tree ≡ t

-- what a declaration makes, by whether there is a module of the name
by-module : (p : Program) (x : Instance) (d : Declaration) (t : Stop) (o : Option ModuleTree) → module_named p d.from.name ≡ o → Among (option_map_or (λ (m : ModuleTree). made p x d m ∷ []) o []) t
    → (m : ModuleTree) × (module_named p d.from.name ≡ Some m) × (made p x d m ≡ t)
by-module p x d t None e h = absurd h
by-module p x d t (Some m) e (inl is) = (m, e, is)
by-module p x d t (Some m) e (inr h) = absurd h

-- so it is for each stop below
pub from-below : (p : Program) (s t : Stop) → Among (stops_below p s) t → IsBelow p s.here t
from-below p s t h =
    let r = from-flat (stop_in p s.here) (instances s.here.from) t h in
    let m = by-module p s.here r.0 t (module_named p r.0.from.name) refl r.2 in
    record { declaration = r.0; declared = r.1; tree = m.0; found = m.1; is = m.2 }

-- and each declaration of a module that is there has a stop below
pub below-made : (p : Program) (s : Stop) (d : Declaration) (m : ModuleTree) → Among (instances s.here.from) d → module_named p d.from.name ≡ Some m → Among (stops_below p s) (made p s.here d m)
below-made p s d m h e =
    among-flat (stop_in p s.here) (instances s.here.from) d (made p s.here d m) h
    (let here : Among (option_map_or (λ (m : ModuleTree). made p s.here d m ∷ []) (Some m) []) (made p s.here d m) = inl refl in
    subst (λ o. Among (option_map_or (λ (m : ModuleTree). made p s.here d m ∷ []) o []) (made p s.here d m)) (sym e) here)

-- the walk begins with its first stop
pub walk-begins : (p : Program) (k : ℕ) (s : Stop) → Among (walk_from p k s) s
walk-begins p zero s = inl refl
walk-begins p (suc k) s = inl refl

-- what passes from each stop to those below it holds in the whole walk
module _ (p : Program) (P : Stop → Type 0) (step : (s t : Stop) → P s → Among (stops_below p s) t → P t) where
  pub walk-holds : (k : ℕ) (s t : Stop) → P s → Among (walk_from p k s) t → P t
  walk-holds zero s t here (inl e) = subst P e here
  walk-holds zero s t here (inr h) = absurd h
  walk-holds (suc k) s t here (inl e) = subst P e here
  walk-holds (suc k) s t here (inr h) =
      let r = from-flat (walk_from p k) (stops_below p s) t h in
      walk-holds k r.0 t (step s r.0 here r.1) r.2

-- ---- the levels are enough

-- What is known of the modules above an instance and its own: they are different, and each holds that of the instance.
record IsAbove (p : Program) (above : List ℕ) (m : ModuleTree) : Type 0 where
  named : module_named p m.name.name ≡ Some m
  known : (a : ℕ) → has above a ≡ true → has (module_names p) a ≡ true
  held : (a : ℕ) → has above a ≡ true → holds_module p (length above) a m.name.name ≡ true
  distinct : IsDistinct eqb above

-- a name that is not there differs from each
apart : (i : ℕ) (xs : List ℕ) → has xs i ≡ false → AllByRecursion (λ j. eqb i j ≡ false) xs
apart i [] e = tt
apart i (x ∷ xs) e = let parts = or_parts (x == i) (has xs i) e in (turned x i ∙ parts.0, apart i xs parts.1)
  where
    turned : (a b : ℕ) → eqb b a ≡ (a == b)
    turned a b = grind (arith, nat_tests)

-- a declared name stands among them
declared-name : (ds : List Declaration) (d : Declaration) → Among ds d → has (map (λ (d : Declaration). d.from.name) ds) d.from.name ≡ true
declared-name [] d h = absurd h
declared-name (x ∷ ds) d (inl e) = or-left (x.from.name == d.from.name) (has (map (λ (d : Declaration). d.from.name) ds) d.from.name) (ap (λ (y : Declaration). y.from.name == d.from.name) e ∙ number-self d.from.name)
declared-name (x ∷ ds) d (inr h) = or-right (x.from.name == d.from.name) (has (map (λ (d : Declaration). d.from.name) ds) d.from.name) (declared-name ds d h)

-- it is not true
not-so : (b : Bool) → (b ≡ true → ⊥) → b ≡ false
not-so true h = absurd (h refl)
not-so false h = refl

-- a place that is not there has a false test
not-there : (b : Bool) (place : Span) → place_if b place ≡ None → b ≡ false
not-there true place e = absurd cc
not-there false place e = refl

module _ (p : Program) (circles : in_modules p (recursive_module p) ≡ None) where
  -- no more names than modules
  short : (above : List ℕ) (m : ModuleTree) → IsAbove p above m → length above ≤ length p.modules
  short above m a =
      subst (λ n. length above ≤ n) (length-names p.modules)
      (length-le_from_is_member equal-numbers above (module_names p) a.distinct (λ q h. flipped (module_names p) q ∙ a.known q (sym (flipped above q) ∙ h)))

  -- the module of an instance is none of those above
  new-below : (above : List ℕ) (m n : ModuleTree) (d : Declaration) → IsAbove p above m → Among (instances m) d → n.name.name ≡ d.from.name → has above n.name.name ≡ false
  new-below above m n d a h same = not-so (has above n.name.name) (λ e.
      let held : holds_module p (length p.modules) n.name.name m.name.name ≡ true = holds-more p (length above) (length p.modules) n.name.name m.name.name (short above m a) (a.held n.name.name e) in
      let none : first (recursive_module p m) ≡ None = first-none-found (recursive_module p) (λ (k : ModuleTree). k.name.name == m.name.name) p.modules m a.named circles in
      let not-held : holds_module p (length p.modules) d.from.name m.name.name ≡ false = not-there (holds_module p (length p.modules) d.from.name m.name.name) d.from.place (none-of (recursive_module p m) (recursive_place p m d) none (among-map (recursive_place p m) (instances m) d h)) in
      let is : holds_module p (length p.modules) d.from.name m.name.name ≡ true = subst (λ (i : ℕ). holds_module p (length p.modules) i m.name.name ≡ true) same held in
      absurd cc)

  -- one level further
  above-more : (above : List ℕ) (m n : ModuleTree) (d : Declaration) → IsAbove p above m → Among (instances m) d → module_named p d.from.name ≡ Some n → IsAbove p (n.name.name ∷ above) n
  above-more above m n d a h found =
      let same : n.name.name ≡ d.from.name = same-number n.name.name d.from.name (found-passes (λ (k : ModuleTree). k.name.name == d.from.name) p.modules n found) in
      let named : module_named p n.name.name ≡ Some n = ap (module_named p) same ∙ found in
      let there : has (module_names p) n.name.name ≡ true = named-has p n.name.name (ap is_none named) in
      let below : has (names_below p m.name.name) n.name.name ≡ true =
      ap (λ o. has (map (λ (d : Declaration). d.from.name) (option_map_or instances o [])) n.name.name) a.named
      ∙ ap (λ (i : ℕ). has (map (λ (d : Declaration). d.from.name) (instances m)) i) same
      ∙ declared-name (instances m) d h in
      record {
        named = named;
        known = λ i e. elim (or-split (n.name.name == i) (has above i) e) [
          | inl is ↦ subst (λ (j : ℕ). has (module_names p) j ≡ true) (same-number n.name.name i is) there
          | inr old ↦ a.known i old
        ];
        held = λ i e. elim (or-split (n.name.name == i) (has above i) e) [
          | inl is ↦ subst (λ (j : ℕ). holds_module p (suc (length above)) j n.name.name ≡ true) (same-number n.name.name i is) (holds-more p 0 (suc (length above)) n.name.name n.name.name (omega arith) (number-self n.name.name))
          | inr old ↦ holds-declared p (length above) i m.name.name n.name.name (a.held i old) below
        ];
        distinct = IsDistinct-cons eqb n.name.name above (apart n.name.name above (new-below above m n d a h same)) a.distinct;
      }

  -- what stands below a stop of the walk stands in the walk
  walk-closed : (k : ℕ) (above : List ℕ) (s : Stop) → IsAbove p above s.here.from → k + length above ≡ suc (length p.modules) → (t u : Stop) → Among (walk_from p k s) t → Among (stops_below p t) u → Among (walk_from p k s) u
  walk-closed zero above s a levels t u h g = absurd (let few = short above s.here.from a in omega (arith, few))
  walk-closed (suc k) above s a levels t u (inl e) g =
      inr (among-flat (walk_from p k) (stops_below p s) u u (subst (λ w. Among (stops_below p w) u) (sym e) g) (walk-begins p k u))
  walk-closed (suc k) above s a levels t u (inr h) g =
      let r = from-flat (walk_from p k) (stops_below p s) t h in
      let b = from-below p s r.0 r.1 in
      let a' : IsAbove p (b.tree.name.name ∷ above) b.tree = above-more above s.here.from b.tree b.declaration a b.declared b.found in
      let same : b.tree ≡ r.0.here.from = ap (λ (w : Stop). w.here.from) b.is in
      inr (among-flat (walk_from p k) (stops_below p s) r.0 u r.1
      (walk-closed k (b.tree.name.name ∷ above) r.0 (subst (IsAbove p (b.tree.name.name ∷ above)) same a') (omega arith) t u r.2 g))

-- ---- the whole walk

-- the first that passes a test of names is the first of its name
first-named : (t : ℕ → Bool) (ms : List ModuleTree) (m : ModuleTree) → find (λ (k : ModuleTree). t k.name.name) ms ≡ Some m → find (λ (k : ModuleTree). k.name.name == m.name.name) ms ≡ Some m
first-named t [] m e = absurd cc
first-named t (k ∷ ms) m e = by (t k.name.name) refl (first-named t ms m) e
  where
    by : (b : Bool) → t k.name.name ≡ b → (find (λ (k : ModuleTree). t k.name.name) ms ≡ Some m → find (λ (k : ModuleTree). k.name.name == m.name.name) ms ≡ Some m)
        → cond b (Some k) (find (λ (k : ModuleTree). t k.name.name) ms) ≡ Some m → cond (k.name.name == m.name.name) (Some k) (find (λ (k : ModuleTree). k.name.name == m.name.name) ms) ≡ Some m
    by true is rest e =
        let same : k ≡ m = cc in
        let here : (k.name.name == m.name.name) ≡ true = ap (λ (j : ModuleTree). j.name.name == m.name.name) same ∙ number-self m.name.name in
        ap (λ (b : Bool). cond b (Some k) (find (λ (k : ModuleTree). k.name.name == m.name.name) ms)) here ∙ e
    by false is rest e =
        let passes : t m.name.name ≡ true = found-passes (λ (k : ModuleTree). t k.name.name) ms m e in
        let other : (k.name.name == m.name.name) ≡ false = not-so (k.name.name == m.name.name) (λ same. let both : t k.name.name ≡ t m.name.name = ap t (same-number k.name.name m.name.name same) in absurd cc) in
        ap (λ (b : Bool). cond b (Some k) (find (λ (k : ModuleTree). k.name.name == m.name.name) ms)) other ∙ rest e

-- The flat walk begins at `main`, and has each stop below one that it has.
pub record IsWhole (p : Program) (w : List Stop) : Type 0 where
  pub main : ModuleTree
  pub there : Among p.modules main
  pub is : w ≡ walk_from p (length p.modules) (root main)
  pub closed : (t u : Stop) → Among w t → Among (stops_below p t) u → Among w u

-- the walk from `main` is whole
whole-by : (p : Program) → in_modules p (recursive_module p) ≡ None → (o : Option ModuleTree) → main_of p ≡ o → is_none o ≡ false → IsWhole p (option_map_or (λ m. walk_from p (length p.modules) (root m)) o [])
whole-by p circles None e some = absurd cc
whole-by p circles (Some m) e some = record {
  main = m;
  there = among-found (is_main p) p.modules m e;
  is = refl;
  closed = walk-closed p circles (length p.modules) (m.name.name ∷ []) (root m) start (omega arith);
}
  where
    named : module_named p m.name.name ≡ Some m
    named = first-named (λ (i : ℕ). bytes_eq (text p.names i) (codes "main")) p.modules m e

    alone : (x : ℕ) → has (m.name.name ∷ []) x ≡ true → m.name.name ≡ x
    alone x h = elim (or-split (m.name.name == x) false h) [ inl e ↦ same-number m.name.name x e | inr n ↦ absurd cc ]

    start : IsAbove p (m.name.name ∷ []) m
    start = record {
      named = named;
      known = λ x h. subst (λ (z : ℕ). has (module_names p) z ≡ true) (alone x h) (named-has p m.name.name (ap is_none named));
      held = λ x h. subst (λ (z : ℕ). holds_module p 1 z m.name.name ≡ true) (alone x h) (holds-more p 0 1 m.name.name m.name.name (omega arith) (number-self m.name.name));
      distinct = IsDistinct-cons eqb m.name.name [] tt distinct-nil;
    }

-- the flat walk is whole
pub walk-whole : (p : Program) → modules_fault p ≡ None → IsWhole p (walk p)
walk-whole p h = whole-by p (has-no-fault p h).circles (main_of p) refl (main-there p h)
