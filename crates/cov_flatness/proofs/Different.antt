-- No dotted name stands twice among the flat names.
use Rattle.std.proofs.Common.{◌≡◌, ℕ, zero, suc, ◌+◌, ◌≤◌, Bool, true, false, cond, ◌&&◌, ◌==◌, eqb, List, [], ◌∷◌, ◌++◌, map, Option, Some, None, is_some, refl, sym, ap, ◌∙◌, arith}
use Rattle.std.specs.List.{flat_map, zip, IsDistinct}
use Rattle.std.specs.Option.{option_map_or}
use Rattle.std.proofs.lemmas.Bool.Decides.{nat_tests}
use Rattle.cov_syntax.specs.declared.program.Spelled.{Spelled}
use Rattle.cov_syntax.specs.declared.program.TypeTree.TheVariants as type
use Rattle.cov_syntax.specs.declared.program.Section.{Section}
use Rattle.cov_syntax.specs.declared.program.Section.TheVariants as section
use Rattle.cov_syntax.specs.declared.program.ModuleTree.{ModuleTree}
use Rattle.cov_syntax.specs.declared.program.Program.{Program}
use Rattle.cov_syntax.specs.declared.tree.Expr.{Expr}
use Rattle.cov_modules.specs.Names.{Dotted, same_name}
use Rattle.cov_modules.specs.Modules.{module_named, declared, Declaration, instance_of, instances}
use Rattle.cov_modules.specs.Things.{Instance, path_of}
use Rattle.cov_modules.specs.Walk.{arguments, Stop, stop_in, stops_below, walk_from}
use Rattle.cov_modules.specs.FlatLists.{FlatVar, var_of, flat_vars, FlatDefine, define_of_argument, define_of, defines_at, flat_defines}
use Rattle.cov_modules.specs.ModuleFaults.{names_of}
use Rattle.cov_flatness.proofs.Counting.{bit, sums, sums-append, sums-flat, behind, behind-none, behind-both, behind-less, behind-push, behind-same, counted, counted-once}

-- ---- what the stops give is among their formals and what they declare

module _ (d : Dotted) where
  abbrev pub var_is : FlatVar → ℕ
  var_is v = bit (same_name d v.name)

  abbrev pub define_is : FlatDefine → ℕ
  define_is e = bit (same_name d e.name)

  abbrev pub name_is : Dotted → Spelled → ℕ
  name_is at x = bit (same_name d (at ++ x.name ∷ []))

  -- how often the name is a formal or a declared name of a stop
  abbrev pub weight : Stop → ℕ
  weight s = sums (name_is s.here.name) (names_of s.here.from)

  -- a section
  section-less : (x : Instance) (s : Section) → sums var_is (var_of x.name s) + sums define_is (define_of x s) ≤ sums (name_is x.name) (declared s)
  section-less x (section.Decl name (type.Instance from given) place) = omega arith
  section-less x (section.Decl name type.Boolean place) = omega arith
  section-less x (section.Decl name (type.List values) place) = omega arith
  section-less x (section.Decl name (type.Between low high) place) = omega arith
  section-less x (section.Define name body) = omega arith
  section-less x (section.Assign when target body) = omega arith
  section-less x (section.Cond kind body) = omega arith

  -- the sections
  own-less : (x : Instance) (ss : List Section) → sums var_is (flat_map (var_of x.name) ss) + sums define_is (flat_map (define_of x) ss) ≤ sums (name_is x.name) (flat_map declared ss)
  own-less x [] = omega arith
  own-less x (s ∷ ss) =
      let here = section-less x s in
      let rest = own-less x ss in
      omega (
        arith,
        here,
        rest,
        sums-append var_is (var_of x.name s) (flat_map (var_of x.name) ss),
        sums-append define_is (define_of x s) (flat_map (define_of x) ss),
        sums-append (name_is x.name) (declared s) (flat_map declared ss),
      )

  -- an argument, by whether it is a path
  argument-less : (b : Bool) (e : FlatDefine) → sums define_is (cond b [] (e ∷ [])) ≤ define_is e
  argument-less true e = omega arith
  argument-less false e = omega arith

  -- the arguments
  given-less : (s : Stop) (fs : List Spelled) (es : List Expr) → sums define_is (flat_map (define_of_argument s) (zip fs es)) ≤ sums (name_is s.here.name) fs
  given-less s [] es = omega arith
  given-less s (f ∷ fs) [] = omega arith
  given-less s (f ∷ fs) (e ∷ es) =
      let made : FlatDefine = record { name = s.here.name ++ f.name ∷ []; body = e; place = e.place; reader = s.caller } in
      let here = argument-less (is_some (path_of e)) made in
      let rest = given-less s fs es in
      omega (arith, here, rest, sums-append define_is (define_of_argument s (f, e)) (flat_map (define_of_argument s) (zip fs es)))

  -- a stop
  stop-less : (s : Stop) → sums var_is (flat_map (var_of s.here.name) s.here.from.sections) + sums define_is (defines_at s) ≤ weight s
  stop-less s =
      let own = own-less s.here s.here.from.sections in
      let given = given-less s s.here.from.formals s.given in
      omega (
        arith,
        own,
        given,
        sums-append define_is (flat_map (define_of_argument s) (zip s.here.from.formals s.given)) (flat_map (define_of s.here) s.here.from.sections),
        sums-append (name_is s.here.name) s.here.from.formals (flat_map declared s.here.from.sections),
      )

  -- the stops
  pub stops-less : (w : List Stop) → sums var_is (flat_vars w) + sums define_is (flat_defines w) ≤ sums weight w
  stops-less [] = omega arith
  stops-less (s ∷ w) =
      let here = stop-less s in
      let rest = stops-less w in
      omega (
        arith,
        here,
        rest,
        sums-append var_is (flat_map (var_of s.here.name) s.here.from.sections) (flat_vars w),
        sums-append define_is (defines_at s) (flat_defines w),
      )

-- ---- the names of a module, by what is left of a name behind that of a stop

-- how often what is left is one of the names
abbrev ends : Dotted → List Spelled → ℕ
ends q = sums (λ (x : Spelled). bit (same_name q (x.name ∷ [])))

-- one where something is left
abbrev pub filled : Dotted → ℕ
filled [] = 0
filled (n ∷ q) = 1

-- how often what is left goes on behind one of the instances
abbrev passed : Dotted → List Declaration → ℕ
passed q = sums (λ (x : Declaration). behind (x.name.name ∷ []) q filled)

-- the weight of a stop
weight-is : (a d : Dotted) (xs : List Spelled) → sums (name_is d a) xs ≡ behind a d (λ q. ends q xs)
weight-is a d [] = sym (behind-none a d)
weight-is a d (x ∷ xs) =
    ap (λ k. k + sums (name_is d a) xs) (behind-same a d x.name)
    ∙ ap (λ k. behind a d (λ q. bit (same_name q (x.name ∷ []))) + k) (weight-is a d xs)
    ∙ sym (behind-both a d (λ q. bit (same_name q (x.name ∷ []))) (λ q. ends q xs))

-- the numbers of some names
abbrev numbers : List Spelled → List ℕ
numbers = map (λ (x : Spelled). x.name)

-- nothing left is no name
ends-nil : (xs : List Spelled) → ends [] xs ≡ 0
ends-nil [] = refl
ends-nil (x ∷ xs) = let rest = ends-nil xs in omega (arith, rest)

-- one part left
ends-one : (n : ℕ) (xs : List Spelled) → ends (n ∷ []) xs ≡ counted n (numbers xs)
ends-one n [] = refl
ends-one n (x ∷ xs) = let rest = ends-one n xs in let here = alone (n == x.name) in omega (arith, rest, here)
  where
    alone : (b : Bool) → bit (b && true) ≡ bit b
    alone true = refl
    alone false = refl

-- more parts left are no name
ends-more : (n k : ℕ) (q : Dotted) (xs : List Spelled) → ends (n ∷ k ∷ q) xs ≡ 0
ends-more n k q [] = refl
ends-more n k q (x ∷ xs) = let rest = ends-more n k q xs in let here = never (n == x.name) in omega (arith, rest, here)
  where
    never : (b : Bool) → bit (b && false) ≡ 0
    never true = refl
    never false = refl

-- nothing goes on
passed-nil : (ds : List Declaration) → passed [] ds ≡ 0
passed-nil [] = refl
passed-nil (x ∷ ds) = let rest = passed-nil ds in omega (arith, rest)

passed-one : (n : ℕ) (ds : List Declaration) → passed (n ∷ []) ds ≡ 0
passed-one n [] = refl
passed-one n (x ∷ ds) = let rest = passed-one n ds in let here = never (x.name.name == n) in omega (arith, rest, here)
  where
    never : (b : Bool) → cond {A = ℕ} b 0 0 ≡ 0
    never true = refl
    never false = refl

-- behind an instance
passed-more : (n k : ℕ) (q : Dotted) (ds : List Declaration) → passed (n ∷ k ∷ q) ds ≡ counted n (map (λ (x : Declaration). x.name.name) ds)
passed-more n k q [] = refl
passed-more n k q (x ∷ ds) = let rest = passed-more n k q ds in let here = same x.name.name n in omega (arith, rest, here)
  where
    same : (a b : ℕ) → cond {A = ℕ} (a == b) 1 0 ≡ bit (b == a)
    same a b = by (a == b) ∙ ap bit (turned a b)
      where
        turned : (a b : ℕ) → (a == b) ≡ (b == a)
        turned a b = grind (arith, nat_tests)

        by : (t : Bool) → cond {A = ℕ} t 1 0 ≡ bit t
        by true = refl
        by false = refl

-- the instances are declared
instances-less : (n : ℕ) (ss : List Section) → counted n (map (λ (x : Declaration). x.name.name) (flat_map instance_of ss)) ≤ counted n (numbers (flat_map declared ss))
instances-less n [] = omega arith
instances-less n (section.Decl name (type.Instance from given) place ∷ ss) = let rest = instances-less n ss in omega (arith, rest)
instances-less n (section.Decl name type.Boolean place ∷ ss) = let rest = instances-less n ss in omega (arith, rest)
instances-less n (section.Decl name (type.List values) place ∷ ss) = let rest = instances-less n ss in omega (arith, rest)
instances-less n (section.Decl name (type.Between low high) place ∷ ss) = let rest = instances-less n ss in omega (arith, rest)
instances-less n (section.Define name body ∷ ss) = let rest = instances-less n ss in omega (arith, rest)
instances-less n (section.Assign when target body ∷ ss) = instances-less n ss
instances-less n (section.Cond kind body ∷ ss) = instances-less n ss

-- behind the names of some formals
numbers-append : (n : ℕ) (xs ys : List Spelled) → counted n (numbers (xs ++ ys)) ≡ counted n (numbers xs) + counted n (numbers ys)
numbers-append n [] ys = omega arith
numbers-append n (x ∷ xs) ys = let rest = numbers-append n xs ys in omega (arith, rest)

-- A module has different names in it.
abbrev pub IsFine : ModuleTree → Type 0
IsFine m = IsDistinct eqb (map (λ (x : Spelled). x.name) (names_of m))

-- what is left is one name at most, or goes on behind one instance
module-less : (m : ModuleTree) → IsFine m → (q : Dotted) → ends q (names_of m) + passed q (instances m) ≤ filled q
module-less m fine [] = omega (arith, ends-nil (names_of m), passed-nil (instances m))
module-less m fine (n ∷ []) = omega (arith, ends-one n (names_of m), passed-one n (instances m), counted-once n (numbers (names_of m)) fine)
module-less m fine (n ∷ k ∷ q) =
    omega (
      arith,
      ends-more n k q (names_of m),
      passed-more n k q (instances m),
      instances-less n m.sections,
      numbers-append n m.formals (flat_map declared m.sections),
      counted-once n (numbers (names_of m)) fine,
    )

-- ---- the walk

module _ (p : Program) (fine : (i : ℕ) (m : ModuleTree) → module_named p i ≡ Some m → IsFine m) (d : Dotted) where
  -- what the stop of a declaration gives
  abbrev below : ℕ → Instance → Declaration → ℕ
  below k x e = sums (λ (t : Stop). sums (weight d) (walk_from p k t)) (stop_in p x e)

  module _ (k : ℕ) (further : (t : Stop) → IsFine t.here.from → sums (weight d) (walk_from p k t) ≤ behind t.here.name d filled) (x : Instance) where
    by-module : (e : Declaration) (o : Option ModuleTree) → module_named p e.from.name ≡ o
        → sums (λ (t : Stop). sums (weight d) (walk_from p k t)) (option_map_or (λ (m : ModuleTree). let at = x.name ++ e.name.name ∷ [] in record {
          caller = x;
          given = e.given;
          here = record { name = at; from = m; formals = arguments p x at m.formals e.given };
        } ∷ []) o [])
        ≤ behind x.name d (λ q. behind (e.name.name ∷ []) q filled)
    by-module e None is = omega arith
    by-module e (Some m) is =
        let at : Dotted = x.name ++ e.name.name ∷ [] in
        let t : Stop = record { caller = x; given = e.given; here = record { name = at; from = m; formals = arguments p x at m.formals e.given } } in
        let h = further t (fine e.from.name m is) in
        let same = behind-push x.name d e.name.name filled in
        omega (arith, h, same)

    declarations-less : (es : List Declaration) → sums (below k x) es ≤ behind x.name d (λ q. passed q es)
    declarations-less [] = omega (arith, behind-none x.name d)
    declarations-less (e ∷ es) =
        let here = by-module e (module_named p e.from.name) refl in
        let rest = declarations-less es in
        let both = behind-both x.name d (λ q. behind (e.name.name ∷ []) q filled) (λ q. passed q es) in
        omega (arith, here, rest, both)

  -- a name stands in the walk once at most, and only behind the name of its first stop
  pub walk-less : (k : ℕ) (s : Stop) → IsFine s.here.from → sums (weight d) (walk_from p k s) ≤ behind s.here.name d filled
  walk-less zero s here =
      let is = weight-is s.here.name d (names_of s.here.from) in
      let less = behind-less s.here.name d (λ q. ends q (names_of s.here.from)) filled (λ q. let h = module-less s.here.from here q in omega arith) in
      omega (arith, is, less)
  walk-less (suc k) s here =
      let is = weight-is s.here.name d (names_of s.here.from) in
      let flat = sums-flat (weight d) (walk_from p k) (stops_below p s) in
      let flat' = sums-flat (λ (t : Stop). sums (weight d) (walk_from p k t)) (stop_in p s.here) (instances s.here.from) in
      let rest = declarations-less k (walk-less k) s.here (instances s.here.from) in
      let both = behind-both s.here.name d (λ q. ends q (names_of s.here.from)) (λ q. passed q (instances s.here.from)) in
      let less = behind-less s.here.name d (λ q. ends q (names_of s.here.from) + passed q (instances s.here.from)) filled (module-less s.here.from here) in
      omega (arith, is, flat, flat', rest, both, less)
