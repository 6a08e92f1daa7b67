-- What follows for a program whose modules have no fault.
use Rattle.std.proofs.Common.{◌≡◌, ℕ, zero, suc, ◌≤◌, Bool, true, false, not, cond, ◌==◌, ◌||◌, ◌&&◌, nat_lt, eqb, List, [], ◌∷◌, map, length, sum_by, slice_get, Option, Some, None, is_none, refl, sym, ap, subst, ◌∙◌, arith}
use Rattle.std.specs.List.{flat_map, IsDistinct, AllByRecursion}
use Rattle.std.proofs.lemmas.Bool.Decides.{nat_tests}
use Rattle.std.proofs.lemmas.Map.Keys.{IsDistinct-cons}
use Rattle.cov_syntax.specs.declared.tree.Span.{Span}
use Rattle.cov_syntax.specs.declared.fault.FaultKind.{FaultKind}
use Rattle.cov_syntax.specs.declared.fault.FaultKind.TheVariants as kind
use Rattle.cov_syntax.specs.declared.fault.ModelFault.{ModelFault}
use Rattle.cov_syntax.specs.declared.program.Spelled.{Spelled}
use Rattle.cov_syntax.specs.declared.program.ModuleTree.{ModuleTree}
use Rattle.cov_syntax.specs.declared.program.Program.{Program}
use Rattle.cov_modules.specs.Names.{has, first}
use Rattle.cov_modules.specs.Modules.{module_names, module_named, is_main, main_of, Declaration, instances}
use Rattle.cov_modules.specs.Walk.{walk}
use Rattle.cov_modules.specs.Counts.{nodes, bodies, flat_names, is_too_large}
use Rattle.cov_modules.specs.ModuleFaults.{fault, place_if, at_start, in_modules, no_main, repeated, names_of, duplicate, duplicate_name, unknown_module, unknown_place, recursive_module, wrong_place, wrong_arguments, formals_of, name_clash, too_large, modules_fault}
use Rattle.cov_modules.proofs.FirstLemmas.{or-none, first-append}
use Rattle.cov_modules.proofs.HasLemmas.{distinct-nil, or-left, or-right}
use Rattle.cov_modules.proofs.NameLemmas.{same-number, number-self}
use Rattle.cov_modules.proofs.WalkLemmas.{IsSound, none-head, not-other}

-- Nothing is wrong with the modules of a program.
pub record HasNoFault (p : Program) : Type 0 where
  pub main : no_main p ≡ None
  pub names : duplicate_name p ≡ None
  pub known : in_modules p (unknown_module p) ≡ None
  pub circles : in_modules p (recursive_module p) ≡ None
  pub arguments : in_modules p (wrong_arguments p) ≡ None
  pub clashes : in_modules p name_clash ≡ None
  pub small : too_large p ≡ None

-- no fault without a place
no-place-left : (k : FaultKind) (o : Option Span) (r : List (Option ModelFault)) → first (fault k o ∷ r) ≡ None → (o ≡ None) × (first r ≡ None)
no-place-left k None r e = (refl, e)
no-place-left k (Some s) r e = absurd cc

-- without a fault of the modules, none of each kind
pub has-no-fault : (p : Program) → modules_fault p ≡ None → HasNoFault p
has-no-fault p h =
    let a = no-place-left kind.NoMain (no_main p) _ h in
    let b = no-place-left kind.DuplicateName (duplicate_name p) _ a.1 in
    let c = no-place-left kind.UnknownModule (in_modules p (unknown_module p)) _ b.1 in
    let d = no-place-left kind.RecursiveModule (in_modules p (recursive_module p)) _ c.1 in
    let e = no-place-left kind.WrongArguments (in_modules p (wrong_arguments p)) _ d.1 in
    let f = no-place-left kind.NameClash (in_modules p name_clash) _ e.1 in
    let g = no-place-left kind.TooLarge (too_large p) _ f.1 in
    record { main = a.0; names = b.0; known = c.0; circles = d.0; arguments = e.0; clashes = f.0; small = g.0 }

-- no place, so the test is false
not-placed : (b : Bool) (place : Span) → place_if b place ≡ None → b ≡ false
not-placed true place e = absurd cc
not-placed false place e = refl

-- neither test is true
neither : (a b : Bool) → (a || b) ≡ false → (a ≡ false) × (b ≡ false)
neither true b e = absurd cc
neither false b e = (refl, e)

-- the limits are kept
not-large : (p : Program) → modules_fault p ≡ None → is_too_large (walk p) ≡ false
not-large p h = not-placed (is_too_large (walk p)) at_start (has-no-fault p h).small

-- a number is not above another
not-above : (k n : ℕ) → nat_lt k n ≡ false → n ≤ k
not-above k n e = grind (arith, nat_tests)

-- at most 4,096 variables, DEFINEs and instances
pub few-names : (p : Program) → modules_fault p ≡ None → flat_names (walk p) ≤ 4096
few-names p h = not-above 4096 (flat_names (walk p)) (neither (nat_lt 4096 (flat_names (walk p))) (nat_lt 1000000 (sum_by nodes (bodies (walk p)))) (not-large p h)).0

-- at most 1,000,000 nodes
pub few-nodes : (p : Program) → modules_fault p ≡ None → sum_by nodes (bodies (walk p)) ≤ 1000000
few-nodes p h = not-above 1000000 (sum_by nodes (bodies (walk p))) (neither (nat_lt 4096 (flat_names (walk p))) (nat_lt 1000000 (sum_by nodes (bodies (walk p)))) (not-large p h)).1

-- at most 4,097 stops
pub few-stops : (p : Program) → modules_fault p ≡ None → length (walk p) ≤ 4097
few-stops p h = let n = few-names p h in omega arith

-- there is a module `main`
pub main-there : (p : Program) → modules_fault p ≡ None → is_none (main_of p) ≡ false
main-there p h = not-placed (is_none (main_of p)) at_start (has-no-fault p h).main

-- ---- names

-- a name that is not there differs from each
apart-from : (i : ℕ) (xs : List ℕ) → has xs i ≡ false → AllByRecursion (λ j. eqb i j ≡ false) xs
apart-from i [] e = tt
apart-from i (x ∷ xs) e = let parts = neither (x == i) (has xs i) e in (swapped x i parts.0, apart-from i xs parts.1)
  where
    swapped : (a b : ℕ) → (a == b) ≡ false → eqb b a ≡ false
    swapped a b e = grind (arith, nat_tests)

-- none of the names stands among others
abbrev pub IsApart : List ℕ → List ℕ → Type 0
IsApart before xs = (i : ℕ) → has before i ≡ true → has xs i ≡ false

-- names of which none is repeated are different, and none stood before
repeated-none : (before : List ℕ) (xs : List Spelled) → repeated before xs ≡ None → IsDistinct eqb (map (λ (x : Spelled). x.name) xs) × IsApart before (map (λ (x : Spelled). x.name) xs)
repeated-none before [] e = (distinct-nil, λ i h. refl)
repeated-none before (x ∷ xs) e =
    let here = new-here (has before x.name) x.place (repeated (x.name ∷ before) xs) e in
    let rest = repeated-none (x.name ∷ before) xs here.1 in (
      IsDistinct-cons eqb x.name (map (λ (x : Spelled). x.name) xs) (apart-from x.name (map (λ (x : Spelled). x.name) xs) (rest.1 x.name (or-left (x.name == x.name) (has before x.name) (number-self x.name)))) rest.0,
      λ i h. apart-both i x.name (map (λ (x : Spelled). x.name) xs) before here.0 h (rest.1 i (or-right (x.name == i) (has before i) h)),
    )
  where
    new-here : (b : Bool) (place : Span) (r : Option Span) → cond b (Some place) r ≡ None → (b ≡ false) × (r ≡ None)
    new-here true place r e = absurd cc
    new-here false place r e = (refl, e)

    apart-both : (i n : ℕ) (xs before : List ℕ) → has before n ≡ false → has before i ≡ true → has xs i ≡ false → ((n == i) || has xs i) ≡ false
    apart-both i n xs before not-n is-i not-i = by-test (n == i) refl
      where
        by-test : (b : Bool) → (n == i) ≡ b → (b || has xs i) ≡ false
        by-test true e = let same : n ≡ i = same-number n i e in absurd (let f : has before i ≡ false = subst (λ z. has before z ≡ false) same not-n in cc)
        by-test false e = not-i

-- the formals and the declared names of a module that is without repeated names are different
pub different-names : (m : ModuleTree) → repeated [] (names_of m) ≡ None → IsDistinct eqb (map (λ (x : Spelled). x.name) (names_of m))
different-names m h = (repeated-none [] (names_of m) h).0

-- the first of a list is not there, and none behind it
none-first : {B : Type 0} → (o : Option B) (r : List (Option B)) → first (o ∷ r) ≡ None → (o ≡ None) × (first r ≡ None)
none-first None r e = (refl, e)
none-first (Some x) r e = absurd cc

-- modules without duplicates: none of their names is repeated, nor a name in one of them
duplicate-none : (before : List ℕ) (ms : List ModuleTree) → first (duplicate before ms) ≡ None
    → (repeated before (map (λ (m : ModuleTree). m.name) ms) ≡ None) × ((i : ℕ) (m : ModuleTree) → slice_get ms i ≡ Some m → repeated [] (names_of m) ≡ None)
duplicate-none before [] e = (refl, λ i m h. absurd cc)
duplicate-none before (n ∷ ms) e =
    let here = none-head (has before n.name.name) n.name.place (repeated [] (names_of n) ∷ duplicate (n.name.name ∷ before) ms) e in
    let inside = none-first (repeated [] (names_of n)) (duplicate (n.name.name ∷ before) ms) here.1 in
    let rest = duplicate-none (n.name.name ∷ before) ms inside.1 in (
      ap (λ b. cond b (Some n.name.place) (repeated (n.name.name ∷ before) (map (λ (m : ModuleTree). m.name) ms))) here.0 ∙ rest.0,
      λ i m h. by-place i m h inside.0 rest.1,
    )
  where
    by-place : (i : ℕ) (m : ModuleTree) → slice_get (n ∷ ms) i ≡ Some m → repeated [] (names_of n) ≡ None
        → ((i : ℕ) (m : ModuleTree) → slice_get ms i ≡ Some m → repeated [] (names_of m) ≡ None) → repeated [] (names_of m) ≡ None
    by-place zero m h here rest = let same : n ≡ m = cc in subst (λ (k : ModuleTree). repeated [] (names_of k) ≡ None) same here
    by-place (suc i) m h here rest = rest i m h

-- the names of the names
names-of-names : (ms : List ModuleTree) → map (λ (x : Spelled). x.name) (map (λ (m : ModuleTree). m.name) ms) ≡ map (λ (m : ModuleTree). m.name.name) ms
names-of-names [] = refl
names-of-names (m ∷ ms) = ap (λ xs. m.name.name ∷ xs) (names-of-names ms)

-- the modules have different names
pub different-modules : (p : Program) → modules_fault p ≡ None → IsDistinct eqb (module_names p)
different-modules p h =
    subst (IsDistinct eqb) (names-of-names p.modules) (repeated-none [] (map (λ (m : ModuleTree). m.name) p.modules) (duplicate-none [] p.modules (has-no-fault p h).names).0).0

-- each module has different names in it
pub different-inside : (p : Program) → modules_fault p ≡ None → (i : ℕ) (m : ModuleTree) → slice_get p.modules i ≡ Some m → IsDistinct eqb (map (λ (x : Spelled). x.name) (names_of m))
different-inside p h i m at = different-names m ((duplicate-none [] p.modules (has-no-fault p h).names).1 i m at)

-- ---- instances

-- none of a list has one, so none of an item has
first-none-get : {A B : Type 0} → (f : A → List (Option B)) (xs : List A) (i : ℕ) (x : A) → first (flat_map f xs) ≡ None → slice_get xs i ≡ Some x → first (f x) ≡ None
first-none-get f [] i x e h = absurd cc
first-none-get f (y ∷ ys) zero x e h = let same : y ≡ x = cc in subst (λ z. first (f z) ≡ None) same (or-none (first (f y)) (first (flat_map f ys)) (sym (first-append (f y) (flat_map f ys)) ∙ e)).0
first-none-get f (y ∷ ys) (suc i) x e h = first-none-get f ys i x (or-none (first (f y)) (first (flat_map f ys)) (sym (first-append (f y) (flat_map f ys)) ∙ e)).1 h

-- the same, with one for each item
none-get : {A B : Type 0} → (f : A → Option B) (xs : List A) (i : ℕ) (x : A) → first (map f xs) ≡ None → slice_get xs i ≡ Some x → f x ≡ None
none-get f [] i x e h = absurd cc
none-get f (y ∷ ys) zero x e h = let same : y ≡ x = cc in subst (λ z. f z ≡ None) same (none-first (f y) (map f ys) e).0
none-get f (y ∷ ys) (suc i) x e h = none-get f ys i x (none-first (f y) (map f ys) e).1 h

-- each module is without faults
pub module-sound : (p : Program) → modules_fault p ≡ None → (i : ℕ) (m : ModuleTree) → slice_get p.modules i ≡ Some m → IsSound p m
module-sound p h i m at = record {
  known = first-none-get (unknown_module p) p.modules i m (has-no-fault p h).known at;
  arguments = first-none-get (wrong_arguments p) p.modules i m (has-no-fault p h).arguments at;
}

-- each instance names a module
pub instance-known : (p : Program) (m : ModuleTree) → IsSound p m → (i : ℕ) (d : Declaration) → slice_get (instances m) i ≡ Some d → is_none (module_named p d.from.name) ≡ false
instance-known p m sound i d at = not-placed (is_none (module_named p d.from.name)) d.from.place (none-get (unknown_place p) (instances m) i d sound.known at)

-- each instance has as many arguments as formals
pub instance-arguments : (p : Program) (m : ModuleTree) → IsSound p m → (i : ℕ) (d : Declaration) → slice_get (instances m) i ≡ Some d → length d.given ≡ formals_of p d.from.name
instance-arguments p m sound i d at =
    not-other (length d.given) (formals_of p d.from.name)
    (not-placed (not (length d.given == formals_of p d.from.name)) d.from.place
    (none-get (wrong_place p) (instances m) i d
    (none-head (is_main p m && nat_lt 0 (length m.formals)) m.name.place (map (wrong_place p) (instances m)) sound.arguments).1 at))

-- `main` has no formals
pub main-without-formals : (p : Program) (m : ModuleTree) → IsSound p m → is_main p m ≡ true → length m.formals ≡ 0
main-without-formals p m sound is =
    let none = (none-head (is_main p m && nat_lt 0 (length m.formals)) m.name.place (map (wrong_place p) (instances m)) sound.arguments).0 in
    let few : nat_lt 0 (length m.formals) ≡ false = sym (ap (λ b. b && nat_lt 0 (length m.formals)) is) ∙ none in
    let le = not-above 0 (length m.formals) few in omega arith
