-- Modules by their names.
use Rattle.std.proofs.Common.{◌≡◌, ℕ, zero, suc, ◌+◌, ◌<◌, Bool, true, false, cond, ◌==◌, List, [], ◌∷◌, map, find, length, slice_get, Option, Some, None, is_none, option_map, refl, sym, ap, ◌∙◌, arith}
use Rattle.std.specs.List.{flat_map}
use Rattle.cov_syntax.specs.declared.tree.Span.{Span}
use Rattle.cov_syntax.specs.declared.program.Section.{Section}
use Rattle.cov_syntax.specs.declared.program.ModuleTree.{ModuleTree}
use Rattle.cov_syntax.specs.declared.program.Program.{Program}
use Rattle.cov_modules.specs.Names.{place_of, first}
use Rattle.cov_modules.specs.Modules.{module_names, module_named, Declaration, instance_of}
use Rattle.cov_modules.proofs.FirstLemmas.{map-flat_map}

-- the module at a place, if there is one
abbrev pub at_place : List ModuleTree → Option ℕ → Option ModuleTree
at_place ms None = None
at_place ms (Some k) = slice_get ms k

-- one module further
at_place-further : (m : ModuleTree) (ms : List ModuleTree) (o : Option ℕ) → at_place ms o ≡ at_place (m ∷ ms) (option_map (λ k. k + 1) o)
at_place-further m ms None = refl
at_place-further m ms (Some k) = let next : k + 1 ≡ suc k = omega arith in rw next refl

-- a module is found by its name at the place of that name
pub find-place : (ms : List ModuleTree) (i : ℕ) → find (λ (m : ModuleTree). m.name.name == i) ms ≡ at_place ms (place_of (map (λ (m : ModuleTree). m.name.name) ms) i)
find-place [] i = refl
find-place (m ∷ ms) i = by_test (m.name.name == i) (find (λ (m : ModuleTree). m.name.name == i) ms) (place_of (map (λ (m : ModuleTree). m.name.name) ms) i) (find-place ms i)
  where
    by_test : (b : Bool) (r : Option ModuleTree) (o : Option ℕ) → r ≡ at_place ms o → cond b (Some m) r ≡ at_place (m ∷ ms) (cond b (Some 0) (option_map (λ k. k + 1) o))
    by_test true r o e = refl
    by_test false r o e = e ∙ at_place-further m ms o

-- by whether the name is the first
below_by : (n k : ℕ) (b : Bool) (o : Option ℕ) → ((j : ℕ) → o ≡ Some j → j < n) → cond b (Some 0) (option_map (λ k. k + 1) o) ≡ Some k → k < suc n
below_by n k true o h e = let h : 0 ≡ k = cc in omega arith
below_by n k false None h e = absurd cc
below_by n k false (Some j) h e = let is : j + 1 ≡ k = cc in omega (arith, h j refl)

-- the place of a name is one of the list
pub place_of-below : (names : List ℕ) (i k : ℕ) → place_of names i ≡ Some k → k < length names
place_of-below [] i k e = absurd cc
place_of-below (x ∷ xs) i k e = below_by (length xs) k (x == i) (place_of xs i) (place_of-below xs i) e

module _ (p : Program) (names : List ℕ) (are : names ≡ module_names p) (i : ℕ) where
  -- a module that is found
  pub found_at : (k : ℕ) → place_of names i ≡ Some k → module_named p i ≡ slice_get p.modules k
  found_at k e = find-place p.modules i ∙ ap (at_place p.modules) (ap (λ xs. place_of xs i) (sym are) ∙ e)

  -- a module that is not found
  pub not_found : place_of names i ≡ None → module_named p i ≡ None
  not_found e = find-place p.modules i ∙ ap (at_place p.modules) (ap (λ xs. place_of xs i) (sym are) ∙ e)

-- as many names as modules
pub length-names : (ms : List ModuleTree) → length (map (λ (m : ModuleTree). m.name.name) ms) ≡ length ms
length-names [] = refl
length-names (m ∷ ms) = ap suc (length-names ms)

-- a place within the list has an item
slice_get-there : {A : Type 0} → (xs : List A) (k : ℕ) → k < length xs → is_none (slice_get xs k) ≡ false
slice_get-there [] k h = absurd (omega arith)
slice_get-there (x ∷ xs) zero h = refl
slice_get-there (x ∷ xs) (suc k) h = slice_get-there xs k (omega arith)

module _ (p : Program) (names : List ℕ) (are : names ≡ module_names p) (i k : ℕ) (at : place_of names i ≡ Some k) where
  -- it is a module's place
  pub found-below : k < length p.modules
  found-below = let h : k < length (module_names p) = place_of-below (module_names p) i k (ap (λ xs. place_of xs i) (sym are) ∙ at) in omega (arith, length-names p.modules)

  -- there is a module of the name
  pub found-there : is_none (module_named p i) ≡ false
  found-there = ap is_none (found_at p names are i k at) ∙ slice_get-there p.modules k found-below

-- what each section gives, for all of a module
pub first-sections : (f : Declaration → Option Span) (ss : List Section) → first (flat_map (λ s. map f (instance_of s)) ss) ≡ first (map f (flat_map instance_of ss))
first-sections f ss = ap first (sym (map-flat_map f instance_of ss))
