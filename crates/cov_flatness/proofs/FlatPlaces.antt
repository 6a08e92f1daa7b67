-- The flat names of a program without faults have places.
use Rattle.std.proofs.Common.{◌≡◌, ℕ, suc, ◌+◌, ◌≤◌, Bool, true, false, cond, ◌==◌, List, [], ◌∷◌, map, find, length, slice_get, Option, Some, None, refl, ap, arith}
use Rattle.std.specs.Option.{option_map_or}
use Rattle.cov_syntax.specs.declared.program.ModuleTree.{ModuleTree}
use Rattle.cov_syntax.specs.declared.program.Program.{Program}
use Rattle.cov_modules.specs.Names.{Dotted, same_name}
use Rattle.cov_modules.specs.Modules.{is_main, main_of}
use Rattle.cov_modules.specs.Walk.{root, walk, walk_from}
use Rattle.cov_modules.specs.FlatLists.{FlatVar, flat_vars, FlatDefine, flat_defines, index_of, place_in}
use Rattle.cov_modules.specs.ModuleFaults.{modules_fault}
use Rattle.cov_modules.proofs.LawLemmas.{different-inside}
use Rattle.cov_flatness.proofs.Counting.{bit, sums, times, place-is}
use Rattle.cov_flatness.proofs.Different.{IsFine, filled, weight, stops-less, walk-less}

-- an item that is found stands somewhere
pub found-place : {A : Type 0} (t : A → Bool) (xs : List A) (x : A) → find t xs ≡ Some x → (i : ℕ) × (slice_get xs i ≡ Some x)
found-place t [] x e = absurd cc
found-place t (y ∷ ys) x e = by (t y) (found-place t ys x) e
  where
    by : (b : Bool) → (find t ys ≡ Some x → (i : ℕ) × (slice_get ys i ≡ Some x)) → cond b (Some y) (find t ys) ≡ Some x → (i : ℕ) × (slice_get (y ∷ ys) i ≡ Some x)
    by true rest e = (0, e)
    by false rest e = let at = rest e in (suc at.0, at.1)

-- a sum over what is made of each item
pub sums-map : {A B : Type 0} (f : B → ℕ) (g : A → B) (xs : List A) → sums f (map g xs) ≡ sums (λ x. f (g x)) xs
sums-map f g [] = refl
sums-map f g (x ∷ xs) = ap (λ k. f (g x) + k) (sums-map f g xs)

-- at most one
filled-one : (d : Dotted) → filled d ≤ 1
filled-one [] = omega arith
filled-one (n ∷ q) = omega arith

module _ (p : Program) (h : modules_fault p ≡ None) where
  -- a module that is found has different names in it
  fine-found : (t : ModuleTree → Bool) (m : ModuleTree) → find t p.modules ≡ Some m → IsFine m
  fine-found t m e = let at = found-place t p.modules m e in different-inside p h at.0 m at.1

  -- among formals and declared names, each stands once
  weight-once : (d : Dotted) (o : Option ModuleTree) → main_of p ≡ o → sums (weight d) (option_map_or (λ m. walk_from p (length p.modules) (root m)) o []) ≤ 1
  weight-once d None e = omega arith
  weight-once d (Some m) e =
      let less = walk-less p (λ i n is. fine-found (λ (n : ModuleTree). n.name.name == i) n is) d (length p.modules) (root m) (fine-found (is_main p) m e) in
      omega (arith, less, filled-one d)

  -- among variables and DEFINEs too
  pub names-once : (d : Dotted) → times d (index_of p).vars + times d (index_of p).defs ≤ 1
  names-once d =
      let less = stops-less d (walk p) in
      let once = weight-once d (main_of p) refl in
      omega (
        arith,
        less,
        once,
        sums-map (λ e. bit (same_name d e)) (λ (x : FlatVar). x.name) (flat_vars (walk p)),
        sums-map (λ e. bit (same_name d e)) (λ (x : FlatDefine). x.name) (flat_defines (walk p)),
      )

  -- so a variable has the place at which it stands
  pub variable-place : (i : ℕ) (d : Dotted) → slice_get (index_of p).vars i ≡ Some d → place_in (index_of p).vars d ≡ i
  variable-place i d at = let once = names-once d in place-is (index_of p).vars i d at (omega arith)

  -- and so has a DEFINE
  pub define-place : (i : ℕ) (d : Dotted) → slice_get (index_of p).defs i ≡ Some d → place_in (index_of p).defs d ≡ i
  define-place i d at = let once = names-once d in place-is (index_of p).defs i d at (omega arith)
