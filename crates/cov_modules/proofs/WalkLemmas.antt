-- The size of the flat walk, by the modules.
use Rattle.std.proofs.Common.{◌≡◌, ℕ, zero, suc, ◌+◌, ◌≤◌, Bool, true, false, not, cond, ◌==◌, ◌||◌, ◌&&◌, nat_lt, List, [], ◌∷◌, ◌++◌, map, find, length, sum_by, slice_get, Option, Some, None, is_none, refl, sym, ap, ◌∙◌, arith}
use Rattle.std.specs.List.{zip}
use Rattle.std.specs.Option.{option_map_or, option_to_list}
use Rattle.std.proofs.lemmas.Bool.Decides.{nat_tests}
use Rattle.cov_syntax.specs.declared.tree.Span.{Span}
use Rattle.cov_syntax.specs.declared.program.Spelled.{Spelled}
use Rattle.cov_syntax.specs.declared.program.ModuleTree.{ModuleTree}
use Rattle.cov_syntax.specs.declared.program.Program.{Program}
use Rattle.cov_syntax.specs.declared.tree.Expr.{Expr}
use Rattle.cov_modules.specs.declared.size.Size.{Size}
use Rattle.cov_modules.specs.Names.{first, place_of}
use Rattle.cov_modules.specs.Modules.{module_names, module_named, main_of, is_main, Declaration, instances}
use Rattle.cov_modules.specs.Things.{Instance}
use Rattle.cov_modules.specs.Walk.{arguments, Stop, stop_in, stops_below, walk_from, root, walk}
use Rattle.cov_modules.specs.FlatLists.{flat_vars, flat_defines}
use Rattle.cov_modules.specs.Counts.{nodes, bodies, flat_names, is_too_large}
use Rattle.cov_modules.specs.ModuleFaults.{place_if, in_modules, unknown_module, unknown_place, formals_of, wrong_place, wrong_arguments}
use Rattle.cov_modules.specs.Ranks.{child, children_of, children}
use Rattle.cov_modules.specs.Sizes.{size, both, total, is_over, capped, argument_size, given_size, own_size, instances_size, whole_size, size_at, grown, all_grown, grown_times, own_sizes, whole_sizes, sizes}
use Rattle.cov_modules.proofs.FirstLemmas.{first-none-found}
use Rattle.cov_modules.proofs.ModuleLemmas.{at_place, find-place}
use Rattle.cov_modules.proofs.SizeLemmas.{capped-left, capped-same, both-assoc, both-nothing, total-flat}
use Rattle.cov_modules.proofs.AmountLemmas.{same-size, pair_size, stop_size, amount, amount-total}

-- ---- sums

-- a function with the same answers
map-same : {A B : Type 0} → (f g : A → B) (xs : List A) → ((x : A) → f x ≡ g x) → map f xs ≡ map g xs
map-same f g [] h = refl
map-same f g (x ∷ xs) h = ap (λ y. y ∷ map f xs) (h x) ∙ ap (λ ys. g x ∷ ys) (map-same f g xs h)

-- four sizes in another order
crossed : (a b c d : Size) → both (both a b) (both c d) ≡ both (both a c) (both b d)
crossed a b c d = same-size (both (both a b) (both c d)) (both (both a c) (both b d)) (omega arith) (omega arith)

-- the sum of sums
total-both : {A : Type 0} → (f g : A → Size) (xs : List A) → total (map (λ x. both (f x) (g x)) xs) ≡ both (total (map f xs)) (total (map g xs))
total-both f g [] = refl
total-both f g (x ∷ xs) = ap (both (both (f x) (g x))) (total-both f g xs) ∙ crossed (f x) (g x) (total (map f xs)) (total (map g xs))

-- the parts of a sum may be capped before
total-capped : {A : Type 0} → (f : A → Size) (xs : List A) → capped (total (map (λ x. capped (f x)) xs)) ≡ capped (total (map f xs))
total-capped f [] = refl
total-capped f (x ∷ xs) = capped-left (f x) (total (map (λ x. capped (f x)) xs)) ∙ capped-same (f x) (total (map (λ x. capped (f x)) xs)) (total (map f xs)) (total-capped f xs)

-- ---- the size of a module with so many levels of instances below it

-- without its own name, and without the arguments that it is given
abbrev pub below : Program → ℕ → ModuleTree → Size
below p zero m = own_size m
below p (suc k) m = both (own_size m) (total (map (λ (d : Declaration). both (given_size d) (option_map_or (below p k) (module_named p d.from.name) (size 0 0))) (instances m)))

-- ---- the table of the modules

-- growing on two lists over the modules
all_grown-map : (t : List Size) (f : ModuleTree → Size) (g : ModuleTree → List ℕ) (ms : List ModuleTree) → all_grown t (map f ms) (map g ms) ≡ map (λ m. grown t (f m) (g m)) ms
all_grown-map t f g [] = refl
all_grown-map t f g (m ∷ ms) = ap (λ xs. grown t (f m) (g m) ∷ xs) (all_grown-map t f g ms)

-- growing once more after growing so many times
grown-last : (k : ℕ) (t ws : List Size) (cs : List (List ℕ)) → grown_times k (all_grown t ws cs) ws cs ≡ all_grown (grown_times k t ws cs) ws cs
grown-last zero t ws cs = refl
grown-last (suc k) t ws cs = grown-last k (all_grown t ws cs) ws cs

-- the size at the place of a module
pub size_at-place : (f : ModuleTree → Size) (ms : List ModuleTree) (j : ℕ) → size_at (map f ms) j ≡ option_map_or f (slice_get ms j) (size 0 0)
size_at-place f [] j = refl
size_at-place f (m ∷ ms) zero = refl
size_at-place f (m ∷ ms) (suc j) = size_at-place f ms j

-- a capped size of a module that may be there
capped-or : (f : ModuleTree → Size) (o : Option ModuleTree) → option_map_or (λ m. capped (f m)) o (size 0 0) ≡ capped (option_map_or f o (size 0 0))
capped-or f None = refl
capped-or f (Some m) = refl

-- what the table has at a place that may be there
at-option : (f : ModuleTree → Size) (ms : List ModuleTree) (o : Option ℕ) → total (map (size_at (map (λ m. capped (f m)) ms)) (option_to_list o)) ≡ capped (option_map_or f (at_place ms o) (size 0 0))
at-option f ms None = refl
at-option f ms (Some j) =
    both-nothing (size_at (map (λ m. capped (f m)) ms) j)
    ∙ size_at-place (λ m. capped (f m)) ms j
    ∙ capped-or f (slice_get ms j)

module _ (p : Program) (k : ℕ) where
  -- what the table has for the module of a declaration
  child-size : (d : Declaration) → total (map (size_at (map (λ m. capped (below p k m)) p.modules)) (child (module_names p) d)) ≡ capped (option_map_or (below p k) (module_named p d.from.name) (size 0 0))
  child-size d = at-option (below p k) p.modules (place_of (module_names p) d.from.name) ∙ sym (ap (λ o. capped (option_map_or (below p k) o (size 0 0))) (find-place p.modules d.from.name))

  -- a module grows to its size with one more level
  grown-below : (m : ModuleTree) → grown (map (λ m. capped (below p k m)) p.modules) (capped (whole_size m)) (children_of (module_names p) m) ≡ capped (below p (suc k) m)
  grown-below m =
      let t : List Size = map (λ m. capped (below p k m)) p.modules in
      let ds : List Declaration = instances m in
      let f : Declaration → Size = λ d. option_map_or (below p k) (module_named p d.from.name) (size 0 0) in
      capped-left (whole_size m) (total (map (size_at t) (children_of (module_names p) m)))
      ∙ capped-same (whole_size m) (total (map (size_at t) (children_of (module_names p) m))) (total (map f ds))
      (ap capped (sym (total-flat (size_at t) (child (module_names p)) ds) ∙ ap total (map-same (λ d. total (map (size_at t) (child (module_names p) d))) (λ d. capped (f d)) ds child-size))
      ∙ total-capped f ds)
      ∙ ap capped (both-assoc (own_size m) (instances_size m) (total (map f ds)) ∙ ap (both (own_size m)) (sym (total-both given_size f ds)))

-- the table has the size of each module
pub sizes-below : (p : Program) (k : ℕ) → sizes p k ≡ map (λ m. capped (below p k m)) p.modules
sizes-below p zero = refl
sizes-below p (suc k) =
    grown-last k (own_sizes p) (whole_sizes p) (children p)
    ∙ ap (λ t. all_grown t (whole_sizes p) (children p)) (sizes-below p k)
    ∙ all_grown-map (map (λ m. capped (below p k m)) p.modules) (λ m. capped (whole_size m)) (children_of (module_names p)) p.modules
    ∙ map-same (λ m. grown (map (λ m. capped (below p k m)) p.modules) (capped (whole_size m)) (children_of (module_names p) m)) (λ m. capped (below p (suc k) m)) p.modules (grown-below p k)

-- ---- the walk

-- What is known of a module without faults: its declared types name modules, and have as many arguments as these have formals.
pub record IsSound (p : Program) (m : ModuleTree) : Type 0 where
  pub known : first (unknown_module p m) ≡ None
  pub arguments : first (wrong_arguments p m) ≡ None

-- there is no place at the front, and none behind it
pub none-head : (b : Bool) (place : Span) (r : List (Option Span)) → first (place_if b place ∷ r) ≡ None → (b ≡ false) × (first r ≡ None)
none-head true place r e = absurd cc
none-head false place r e = (refl, e)

-- each module that is found is without faults, if all are
module _ (p : Program) (known : in_modules p (unknown_module p) ≡ None) (arguments' : in_modules p (wrong_arguments p) ≡ None) where
  pub found-sound : (t : ModuleTree → Bool) (m : ModuleTree) → find t p.modules ≡ Some m → IsSound p m
  found-sound t m e = record {
    known = first-none-found (unknown_module p) t p.modules m e known;
    arguments = first-none-found (wrong_arguments p) t p.modules m e arguments';
  }

-- as many arguments as formals
zip-given : (fs : List Spelled) (es : List Expr) → length es ≡ length fs → map pair_size (zip fs es) ≡ map argument_size es
zip-given [] [] h = refl
zip-given [] (e ∷ es) h = absurd (omega arith)
zip-given (f ∷ fs) [] h = absurd (omega arith)
zip-given (f ∷ fs) (e ∷ es) h = ap (λ xs. argument_size e ∷ xs) (zip-given fs es (omega arith))

-- no arguments
zip-none : (fs : List Spelled) → total (map pair_size (zip fs [])) ≡ size 0 0
zip-none [] = refl
zip-none (f ∷ fs) = refl

-- the name of a stop, and its arguments
abbrev stop_given : Stop → Size
stop_given s = both (size 1 0) (total (map pair_size (zip s.here.from.formals s.given)))

-- equal numbers, by the test
pub not-other : (a b : ℕ) → not (a == b) ≡ false → a ≡ b
not-other a b h = grind (arith, nat_tests)

module _ (p : Program) (known : in_modules p (unknown_module p) ≡ None) (arguments' : in_modules p (wrong_arguments p) ≡ None) (k : ℕ)
    (further : (s : Stop) → IsSound p s.here.from → total (map stop_size (walk_from p k s)) ≡ both (stop_given s) (below p k s.here.from)) (caller : Instance) where
  -- the stop that a declaration makes of a module
  abbrev made : Declaration → ModuleTree → Stop
  made d m = record {
    caller = caller;
    given = d.given;
    here = record { name = caller.name ++ d.name.name ∷ []; from = m; formals = arguments p caller (caller.name ++ d.name.name ∷ []) m.formals d.given };
  }

  -- what is walked below a declaration
  by-module : (d : Declaration) (o : Option ModuleTree) → o ≡ module_named p d.from.name → is_none o ≡ false → length d.given ≡ option_map_or (λ (m : ModuleTree). length m.formals) o 0
      → total (map (λ (s : Stop). total (map stop_size (walk_from p k s))) (option_map_or (λ (m : ModuleTree). made d m ∷ []) o [])) ≡ both (given_size d) (option_map_or (below p k) o (size 0 0))
  by-module d None is there same = absurd cc
  by-module d (Some m) is there same =
      both-nothing (total (map stop_size (walk_from p k (made d m))))
      ∙ further (made d m) (found-sound p known arguments' (λ (m : ModuleTree). m.name.name == d.from.name) m (sym is))
      ∙ ap (λ xs. both (both (size 1 0) (total xs)) (below p k m)) (zip-given m.formals d.given same)

  -- what is walked below some declarations
  by-declarations : (ds : List Declaration) → first (map (unknown_place p) ds) ≡ None → first (map (wrong_place p) ds) ≡ None
      → map (λ (d : Declaration). total (map (λ (s : Stop). total (map stop_size (walk_from p k s))) (stop_in p caller d))) ds
      ≡ map (λ (d : Declaration). both (given_size d) (option_map_or (below p k) (module_named p d.from.name) (size 0 0))) ds
  by-declarations [] u w = refl
  by-declarations (d ∷ ds) u w =
      let known-here = none-head (is_none (module_named p d.from.name)) d.from.place (map (unknown_place p) ds) u in
      let same-here = none-head (not (length d.given == formals_of p d.from.name)) d.from.place (map (wrong_place p) ds) w in
      ap (λ x. x ∷ map (λ (d : Declaration). total (map (λ (s : Stop). total (map stop_size (walk_from p k s))) (stop_in p caller d))) ds)
      (by-module d (module_named p d.from.name) refl known-here.0 (not-other (length d.given) (formals_of p d.from.name) same-here.0))
      ∙ ap (λ xs. both (given_size d) (option_map_or (below p k) (module_named p d.from.name) (size 0 0)) ∷ xs) (by-declarations ds known-here.1 same-here.1)

-- the walk gives the size of its module, with the stop's own name and arguments
module _ (p : Program) (known : in_modules p (unknown_module p) ≡ None) (arguments' : in_modules p (wrong_arguments p) ≡ None) where
  pub walk-size : (k : ℕ) (s : Stop) → IsSound p s.here.from → total (map stop_size (walk_from p k s)) ≡ both (stop_given s) (below p k s.here.from)
  walk-size zero s sound = both-nothing (stop_size s)
  walk-size (suc k) s sound =
      ap (both (stop_size s)) (
      sym (total-flat stop_size (walk_from p k) (stops_below p s))
      ∙ sym (total-flat (λ (s : Stop). total (map stop_size (walk_from p k s))) (stop_in p s.here) (instances s.here.from))
      ∙ ap total (by-declarations p known arguments' k (walk-size k) s.here (instances s.here.from) sound.known
      (none-head (is_main p s.here.from && nat_lt 0 (length s.here.from.formals)) s.here.from.name.place (map (wrong_place p) (instances s.here.from)) sound.arguments).1)
      )
      ∙ both-assoc (stop_given s) (own_size s.here.from) (total (map (λ (d : Declaration). both (given_size d) (option_map_or (below p k) (module_named p d.from.name) (size 0 0))) (instances s.here.from)))

  -- there is a stop at least
  walk-filled : (k : ℕ) (s : Stop) → 1 ≤ length (walk_from p k s)
  walk-filled zero s = omega arith
  walk-filled (suc k) s = omega arith

  -- whether a capped size is over the limits
  over-capped : (a : Size) → is_over (capped a) ≡ is_over a
  over-capped a = by-test (is_over a) refl
    where
      by-test : (b : Bool) → is_over a ≡ b → is_over (cond b (size 4097 1000001) a) ≡ b
      by-test true h = refl
      by-test false h = h

  -- the walk from a module, with the limits
  large-below : (k : ℕ) (m : ModuleTree) → IsSound p m → is_too_large (walk_from p k (root m)) ≡ is_over (below p k m)
  large-below k m sound =
      let w : List Stop = walk_from p k (root m) in
      let all : amount w ≡ both (both (size 1 0) (size 0 0)) (below p k m) =
      amount-total w ∙ walk-size k (root m) sound ∙ ap (λ x. both (both (size 1 0) x) (below p k m)) (zip-none m.formals) in
      let names : length (flat_vars w) + length (flat_defines w) + length w ≡ 1 + 0 + (below p k m).names = ap (λ (a : Size). a.names) all in
      let nodes' : sum_by nodes (bodies w) ≡ 0 + 0 + (below p k m).nodes = ap (λ (a : Size). a.nodes) all in
      let n : flat_names w ≡ (below p k m).names = omega (arith, names, walk-filled k (root m)) in
      let e : sum_by nodes (bodies w) ≡ (below p k m).nodes = omega (arith, nodes') in
      ap (λ x. nat_lt 4096 x || nat_lt 1000000 (sum_by nodes (bodies w))) n ∙ ap (λ x. nat_lt 4096 (below p k m).names || nat_lt 1000000 x) e

  by-main : (k : ℕ) (o : Option ModuleTree) → o ≡ main_of p
      → is_too_large (option_map_or (λ m. walk_from p k (root m)) o []) ≡ is_over (option_map_or (λ m. capped (below p k m)) o (size 0 0))
  by-main k None e = refl
  by-main k (Some m) e = large-below k m (found-sound p known arguments' (is_main p) m (sym e)) ∙ sym (over-capped (below p k m))

-- the walk is too large exactly where the table says so at `main`
pub too-large-is : (p : Program) (main : ℕ) → in_modules p (unknown_module p) ≡ None → in_modules p (wrong_arguments p) ≡ None → slice_get p.modules main ≡ main_of p
    → is_too_large (walk p) ≡ is_over (size_at (sizes p (length p.modules)) main)
too-large-is p main known arguments' is =
    by-main p known arguments' (length p.modules) (main_of p) refl
    ∙ sym (ap is_over (
    ap (λ t. size_at t main) (sizes-below p (length p.modules))
    ∙ size_at-place (λ m. capped (below p (length p.modules) m)) p.modules main
    ∙ ap (λ o. option_map_or (λ m. capped (below p (length p.modules) m)) o (size 0 0)) is))
