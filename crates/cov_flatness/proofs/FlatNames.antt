-- The names and the values of a flat model.
use Rattle.std.proofs.Common.{◌≡◌, ℕ, zero, suc, ◌+◌, ◌<◌, inl, inr, Bool, true, false, not, cond, ◌&&◌, nat_lt, List, [], ◌∷◌, ◌++◌, map, length, min, slice_get, Option, Some, None, is_some, refl, sym, ap, subst, ◌∙◌, arith}
use Rattle.std.specs.Prelude.{ℤ, pos, ◌+ℤ◌, ◌-ℤ◌, nat_abs, int_le}
use Rattle.std.specs.List.{list_all, list_any, flat_map, zip}
use Rattle.std.proofs.lemmas.Bool.{and_parts, and_from, lt-ltb, ltb-true}
use Rattle.std.proofs.lemmas.List.{length-map, map-append}
use Rattle.std.proofs.lemmas.Option.{slice_get_within}
use Rattle.cov_syntax.specs.Texts.{IsDistinctTexts}
use Rattle.cov_syntax.specs.declared.program.Spelled.{Spelled}
use Rattle.cov_syntax.specs.declared.program.TypeTree.TheVariants as type
use Rattle.cov_syntax.specs.declared.program.Section.{Section}
use Rattle.cov_syntax.specs.declared.program.Section.TheVariants as section
use Rattle.cov_syntax.specs.declared.program.ModuleTree.{ModuleTree}
use Rattle.cov_syntax.specs.declared.program.Program.{Program}
use Rattle.cov_syntax.specs.declared.tree.Value.{Value}
use Rattle.cov_syntax.specs.declared.tree.Value.TheVariants as v
use Rattle.cov_model.specs.declared.model.Var.{Var}
use Rattle.cov_model.specs.declared.model.Define.{Define}
use Rattle.cov_model.specs.declared.model.Model.{Model}
use Rattle.cov_model.specs.Kinds.{is_truth}
use Rattle.cov_model.specs.Names.{Text, is_name, is_dotted}
use Rattle.cov_model.specs.WellFormed.{is_symbol, has_name, all_different, flat_names, are_values}
use Rattle.cov_modules.specs.Names.{Dotted, same_name, spelled}
use Rattle.cov_modules.specs.Modules.{declared, symbol_of, symbols_of}
use Rattle.cov_modules.specs.Things.{Instance, path_of}
use Rattle.cov_modules.specs.Walk.{Stop, walk}
use Rattle.cov_modules.specs.FlatLists.{FlatVar, range_values, values_of, var_of, flat_vars, FlatDefine, define_of_argument, define_of, defines_at, flat_defines, index_of, place_in, flat_expr, all_names, number_of, flat_model}
use Rattle.cov_modules.specs.Conditions.{is_filled, is_enumerable, has_values, IsFlattenable}
use Rattle.cov_modules.specs.ModuleFaults.{names_of, modules_fault}
use Rattle.cov_flatness.proofs.Among.{Among, among-left, among-right, among-split, among-flat, from-flat, among-map, from-map, each-passes, all-pass}
use Rattle.cov_flatness.proofs.Counting.{bit, sums-append}
use Rattle.cov_flatness.proofs.FlatPlaces.{names-once, variable-place, define-place}
use Rattle.cov_flatness.proofs.Walking.{IsWhole, walk-whole}
use Rattle.cov_flatness.proofs.Citing.{AreNamed, HasFlat}
use Rattle.cov_flatness.proofs.Visits.{named-both, name-named, symbols-named, symbol-named, visited}
use Rattle.cov_flatness.proofs.Spelling.{name-at, IsFlatName, spelled-dotted, spelled-different}
use Rattle.cov_flatness.proofs.Numbering.{all-kept, all-among, numbered, same-numbered, different-numbers}

-- ---- lists

-- an item of a list stands at some place
among-place : {A : Type 0} (xs : List A) (x : A) → Among xs x → (i : ℕ) × (slice_get xs i ≡ Some x)
among-place [] x h = absurd h
among-place (y ∷ xs) x (inl e) = (0, ap (λ z. Some z) e)
among-place (y ∷ xs) x (inr h) = let r = among-place xs x h in (suc r.0, r.1)

-- the first of two stands among the first
among-zip : {A B : Type 0} (xs : List A) (ys : List B) (a : A × B) → Among (zip xs ys) a → Among xs a.0
among-zip [] ys a h = absurd h
among-zip (x ∷ xs) [] a h = absurd h
among-zip (x ∷ xs) (y ∷ ys) a (inl e) = inl (ap (λ (a : _ × _). a.0) e)
among-zip (x ∷ xs) (y ∷ ys) a (inr h) = inr (among-zip xs ys a h)

-- ---- where the flat names come from

variable-from : (at : Dotted) (x : Section) (w : FlatVar) → Among (var_of at x) w → (y : Spelled) × Among (declared x) y × (at ++ y.name ∷ [] ≡ w.name)
variable-from at (section.Decl name (type.Instance from given) place) w h = absurd h
variable-from at (section.Decl name type.Boolean place) w (inl e) = (name, inl refl, ap (λ (w : FlatVar). w.name) e)
variable-from at (section.Decl name type.Boolean place) w (inr h) = absurd h
variable-from at (section.Decl name (type.List values) place) w (inl e) = (name, inl refl, ap (λ (w : FlatVar). w.name) e)
variable-from at (section.Decl name (type.List values) place) w (inr h) = absurd h
variable-from at (section.Decl name (type.Between low high) place) w (inl e) = (name, inl refl, ap (λ (w : FlatVar). w.name) e)
variable-from at (section.Decl name (type.Between low high) place) w (inr h) = absurd h
variable-from at (section.Define name body) w h = absurd h
variable-from at (section.Assign when target body) w h = absurd h
variable-from at (section.Cond kind body) w h = absurd h

define-from : (i : Instance) (x : Section) (w : FlatDefine) → Among (define_of i x) w → (y : Spelled) × Among (declared x) y × (i.name ++ y.name ∷ [] ≡ w.name)
define-from i (section.Define name body) w (inl e) = (name, inl refl, ap (λ (w : FlatDefine). w.name) e)
define-from i (section.Define name body) w (inr h) = absurd h
define-from i (section.Decl name kind place) w h = absurd h
define-from i (section.Assign when target body) w h = absurd h
define-from i (section.Cond kind body) w h = absurd h

argument-from : (b : Bool) (w e : FlatDefine) → Among (cond b [] (w ∷ [])) e → w ≡ e
argument-from true w e h = absurd h
argument-from false w e (inl is) = is
argument-from false w e (inr h) = absurd h

-- a name with one part more is one
flat-name : (p : Program) (at : Dotted) (n : ℕ) → AreNamed p at → nat_lt n (length p.names) ≡ true → IsFlatName p.names (at ++ n ∷ [])
flat-name p at n parts last = record {
  filled = filled at;
  parts = all-pass (λ i. nat_lt i (length p.names)) (at ++ n ∷ []) (named-both p at (n ∷ []) parts (λ i h. elim h [ inl e ↦ subst (λ (j : ℕ). nat_lt j (length p.names) ≡ true) e last | inr z ↦ absurd z ]));
}
  where
    filled : (at : Dotted) → is_filled (at ++ n ∷ []) ≡ true
    filled [] = refl
    filled (i ∷ is) = refl

-- ---- values

-- no integer is a truth
range-passes : (t : Value → Bool) → ((i : ℤ) → t (v.Int i) ≡ true) → (low : ℤ) (k : ℕ) → list_all t (range_values low k) ≡ true
range-passes t h low zero = refl
range-passes t h low (suc k) = and_from (t (v.Int low)) (list_all t (range_values (low +ℤ pos 1) k)) (h low) (range-passes t h (low +ℤ pos 1) k)

between-passes : (t : Value → Bool) → ((i : ℤ) → t (v.Int i) ≡ true) → (low high : ℤ) → list_all t (values_of (type.Between low high)) ≡ true
between-passes t h low high = by (int_le low high)
  where
    by : (b : Bool) → list_all t (cond b (range_values low (min (nat_abs (high -ℤ low) + 1) 1025)) []) ≡ true
    by true = range-passes t h low (min (nat_abs (high -ℤ low) + 1) 1025)
    by false = refl

-- values without a truth are a variable's
no-truth : (xs : List Value) → list_all is_enumerable xs ≡ true → list_any is_truth xs ≡ false
no-truth [] h = refl
no-truth (v.Bool b ∷ xs) h = absurd cc
no-truth (v.Int i ∷ xs) h = no-truth xs h
no-truth (v.Sym i ∷ xs) h = no-truth xs h

enumerable-values : (xs : List Value) → list_all is_enumerable xs ≡ true → are_values xs ≡ true
enumerable-values [] h = refl
enumerable-values (v.Bool b ∷ xs) h = absurd cc
enumerable-values (v.Int i ∷ xs) h = ap not (no-truth (v.Int i ∷ xs) h)
enumerable-values (v.Sym i ∷ xs) h = ap not (no-truth (v.Sym i ∷ xs) h)

-- the values of a declared type
values-right : (at : Dotted) (x : Section) (w : FlatVar) → has_values x ≡ true → Among (var_of at x) w → are_values w.values ≡ true
values-right at (section.Decl name (type.Instance from given) place) w h g = absurd g
values-right at (section.Decl name type.Boolean place) w h (inl e) = ap (λ (w : FlatVar). are_values w.values) (sym e)
values-right at (section.Decl name type.Boolean place) w h (inr g) = absurd g
values-right at (section.Decl name (type.List values) place) w h (inl e) = ap (λ (w : FlatVar). are_values w.values) (sym e) ∙ enumerable-values values (and_parts (is_filled values) (list_all is_enumerable values) h).1
values-right at (section.Decl name (type.List values) place) w h (inr g) = absurd g
values-right at (section.Decl name (type.Between low high) place) w h (inl e) =
    ap (λ (w : FlatVar). are_values w.values) (sym e) ∙ enumerable-values (values_of (type.Between low high)) (between-passes is_enumerable (λ i. refl) low high)
values-right at (section.Decl name (type.Between low high) place) w h (inr g) = absurd g
values-right at (section.Define name body) w h g = absurd g
values-right at (section.Assign when target body) w h g = absurd g
values-right at (section.Cond kind body) w h g = absurd g

-- values that pass where symbols pass
symbols-pass : (t : Value → Bool) → ((b : Bool) → t (v.Bool b) ≡ true) → ((i : ℤ) → t (v.Int i) ≡ true) → (xs : List Value) → ((i : ℕ) → Among (flat_map symbol_of xs) i → t (v.Sym i) ≡ true) → list_all t xs ≡ true
symbols-pass t bools ints [] h = refl
symbols-pass t bools ints (v.Bool b ∷ xs) h = and_from (t (v.Bool b)) (list_all t xs) (bools b) (symbols-pass t bools ints xs h)
symbols-pass t bools ints (v.Int i ∷ xs) h = and_from (t (v.Int i)) (list_all t xs) (ints i) (symbols-pass t bools ints xs h)
symbols-pass t bools ints (v.Sym i ∷ xs) h = and_from (t (v.Sym i)) (list_all t xs) (h i (inl refl)) (symbols-pass t bools ints xs (λ j g. h j (inr g)))

module _ (t : Value → Bool) (bools : (b : Bool) → t (v.Bool b) ≡ true) (ints : (i : ℤ) → t (v.Int i) ≡ true) where
  values-pass : (at : Dotted) (x : Section) (w : FlatVar) → ((i : ℕ) → Among (symbols_of x) i → t (v.Sym i) ≡ true) → Among (var_of at x) w → list_all t w.values ≡ true
  values-pass at (section.Decl name (type.Instance from given) place) w h g = absurd g
  values-pass at (section.Decl name type.Boolean place) w h (inl e) =
      ap (λ (w : FlatVar). list_all t w.values) (sym e) ∙ and_from (t (v.Bool false)) (t (v.Bool true) && true) (bools false) (and_from (t (v.Bool true)) true (bools true) refl)
  values-pass at (section.Decl name type.Boolean place) w h (inr g) = absurd g
  values-pass at (section.Decl name (type.List values) place) w h (inl e) = ap (λ (w : FlatVar). list_all t w.values) (sym e) ∙ symbols-pass t bools ints values h
  values-pass at (section.Decl name (type.List values) place) w h (inr g) = absurd g
  values-pass at (section.Decl name (type.Between low high) place) w h (inl e) = ap (λ (w : FlatVar). list_all t w.values) (sym e) ∙ between-passes t ints low high
  values-pass at (section.Decl name (type.Between low high) place) w h (inr g) = absurd g
  values-pass at (section.Define name body) w h g = absurd g
  values-pass at (section.Assign when target body) w h g = absurd g
  values-pass at (section.Cond kind body) w h g = absurd g

-- ---- the flat names of a program

module _ (p : Program) (f : IsFlattenable p) (h : modules_fault p ≡ None) where
  whole : IsWhole p (walk p)
  whole = walk-whole p h

  -- a name that a stop gives
  stop-name : (t : Stop) (y : Spelled) → Among (walk p) t → Among (names_of t.here.from) y → IsFlatName p.names (t.here.name ++ y.name ∷ [])
  stop-name t y at g = let s = visited p f whole t at in flat-name p t.here.name y.name s.parts (name-named p f t.here.from s.from y g)

  -- the variables
  section-variable : (t : Stop) (w : FlatVar) → Among (walk p) t → Among (flat_map (var_of t.here.name) t.here.from.sections) w → IsFlatName p.names w.name
  section-variable t w at g =
      let x = from-flat (var_of t.here.name) t.here.from.sections w g in
      let y = variable-from t.here.name x.0 w x.2 in
      subst (IsFlatName p.names) y.2 (stop-name t y.0 at (among-right t.here.from.formals (flat_map declared t.here.from.sections) y.0 (among-flat declared t.here.from.sections x.0 y.0 x.1 y.1)))

  pub variable-name : (d : Dotted) → Among (index_of p).vars d → IsFlatName p.names d
  variable-name d g =
      let w = from-map (λ (w : FlatVar). w.name) (flat_vars (walk p)) d g in
      let t = from-flat (λ (s : Stop). flat_map (var_of s.here.name) s.here.from.sections) (walk p) w.0 w.1 in
      subst (IsFlatName p.names) w.2 (section-variable t.0 w.0 t.1 t.2)

  -- the DEFINEs of arguments, and those of sections
  argument-name : (t : Stop) (w : FlatDefine) → Among (walk p) t → Among (flat_map (define_of_argument t) (zip t.here.from.formals t.given)) w → IsFlatName p.names w.name
  argument-name t w at g =
      let a = from-flat (define_of_argument t) (zip t.here.from.formals t.given) w g in
      let made : FlatDefine = record { name = t.here.name ++ a.0.0.name ∷ []; body = a.0.1; place = a.0.1.place; reader = t.caller } in
      let is : made ≡ w = argument-from (is_some (path_of a.0.1)) made w a.2 in
      subst (IsFlatName p.names) (ap (λ (w : FlatDefine). w.name) is) (stop-name t a.0.0 at (among-left t.here.from.formals (flat_map declared t.here.from.sections) a.0.0 (among-zip t.here.from.formals t.given a.0 a.1)))

  section-define : (t : Stop) (w : FlatDefine) → Among (walk p) t → Among (flat_map (define_of t.here) t.here.from.sections) w → IsFlatName p.names w.name
  section-define t w at g =
      let x = from-flat (define_of t.here) t.here.from.sections w g in
      let y = define-from t.here x.0 w x.2 in
      subst (IsFlatName p.names) y.2 (stop-name t y.0 at (among-right t.here.from.formals (flat_map declared t.here.from.sections) y.0 (among-flat declared t.here.from.sections x.0 y.0 x.1 y.1)))

  pub define-name : (d : Dotted) → Among (index_of p).defs d → IsFlatName p.names d
  define-name d g =
      let w = from-map (λ (w : FlatDefine). w.name) (flat_defines (walk p)) d g in
      let t = from-flat defines_at (walk p) w.0 w.1 in
      subst (IsFlatName p.names) w.2 (elim (among-split (flat_map (define_of_argument t.0) (zip t.0.here.from.formals t.0.given)) (flat_map (define_of t.0.here) t.0.here.from.sections) w.0 t.2) [
        | inl a ↦ argument-name t.0 w.0 t.1 a
        | inr s ↦ section-define t.0 w.0 t.1 s
      ])

  -- ---- the model

  abbrev m : Model
  m = flat_model p

  abbrev ds : List Dotted
  ds = (index_of p).vars ++ (index_of p).defs

  abbrev texts : List Text
  texts = all_names p (index_of p)

  abbrev number : Dotted → ℕ
  number d = number_of texts (spelled p.names d)

  abbrev as_variable : FlatVar → Var
  as_variable x = record { name = number x.name; values = x.values; place = x.place; kind_place = x.kind_place }

  abbrev pub as_define : FlatDefine → Define
  as_define d = record { name = number d.name; body = flat_expr p (index_of p) d.reader d.body; place = d.place }

  each-name : (d : Dotted) → Among ds d → IsFlatName p.names d
  each-name d g = elim (among-split (index_of p).vars (index_of p).defs d g) [ inl a ↦ variable-name d a | inr b ↦ define-name d b ]

  text-there : (d : Dotted) → Among ds d → Among texts (spelled p.names d)
  text-there d g = all-among (map (spelled p.names) ds) p.names (spelled p.names d) (among-map (spelled p.names) ds d g)

  -- a symbol of the program's names
  pub symbol-there : (i : ℕ) → nat_lt i (length p.names) ≡ true → is_symbol (flat_model p) (v.Sym i) ≡ true
  symbol-there i g = by (slice_get p.names i) refl (within p.names i g)
    where
      within : (names : List Text) (i : ℕ) → nat_lt i (length names) ≡ true → is_some (slice_get names i) ≡ true
      within names i g = at names i (ltb-true i (length names) g)
        where
          at : (names : List Text) (i : ℕ) → i < length names → is_some (slice_get names i) ≡ true
          at [] i h = absurd (omega arith)
          at (t ∷ ts) zero h = refl
          at (t ∷ ts) (suc i) h = at ts i (omega arith)

      by : (o : Option Text) → slice_get p.names i ≡ o → is_some o ≡ true → is_symbol m (v.Sym i) ≡ true
      by None e s = absurd cc
      by (Some t) e s =
          ap (λ (o : Option Text). elim o [ Some t ↦ is_name t | None ↦ false ]) (all-kept (map (spelled p.names) ds) p.names i t e)
          ∙ name-at p.names i t f.names e

  -- the names of the variables and of the DEFINEs are their numbers
  variable-numbers : (ws : List FlatVar) → map (λ (x : Var). x.name) (map as_variable ws) ≡ map number (map (λ (x : FlatVar). x.name) ws)
  variable-numbers [] = refl
  variable-numbers (w ∷ ws) = ap (λ (ns : List ℕ). number w.name ∷ ns) (variable-numbers ws)

  define-numbers : (ws : List FlatDefine) → map (λ (d : Define). d.name) (map as_define ws) ≡ map number (map (λ (d : FlatDefine). d.name) ws)
  define-numbers [] = refl
  define-numbers (w ∷ ws) = ap (λ (ns : List ℕ). number w.name ∷ ns) (define-numbers ws)

  names-are : flat_names m ≡ map number ds
  names-are =
      ap (λ (ns : List ℕ). ns ++ map (λ (d : Define). d.name) m.defines) (variable-numbers (flat_vars (walk p)))
      ∙ ap (λ (ns : List ℕ). map number (index_of p).vars ++ ns) (define-numbers (flat_defines (walk p)))
      ∙ sym (map-append number (index_of p).vars (index_of p).defs)

  -- each is names joined by dots
  name-there : (n : ℕ) → Among (map number ds) n → has_name m n ≡ true
  name-there n g =
      let d = from-map number ds n g in
      subst (λ (k : ℕ). has_name m k ≡ true) d.2
      (ap (λ (o : Option Text). elim o [ Some t ↦ is_dotted t | None ↦ false ]) (numbered texts (spelled p.names d.0) (text-there d.0 d.1))
      ∙ spelled-dotted p.names f.names d.0 (each-name d.0 d.1))

  pub names-there : list_all (has_name (flat_model p)) (flat_names (flat_model p)) ≡ true
  names-there = ap (list_all (has_name m)) names-are ∙ all-pass (has_name m) (map number ds) name-there

  -- no two are one
  pub names-different : IsDistinctTexts p.names → all_different (flat_names (flat_model p)) ≡ true
  names-different distinct =
      ap all_different names-are
      ∙ different-numbers number ds
      (λ d e a b same. spelled-different p.names f.names distinct d e (each-name d a) (each-name e b) (same-numbered texts (spelled p.names d) (spelled p.names e) (text-there d a) (text-there e b) same))
      (λ d. let once = names-once p h d in omega (arith, once, sums-append (λ e. bit (same_name d e)) (index_of p).vars (index_of p).defs))

  -- ---- the values of the variables

  abbrev Wanted : (FlatVar → Bool) → Type 0
  Wanted t = (s : Stop) (x : Section) (w : FlatVar) → Among (walk p) s → Among s.here.from.sections x → Among (var_of s.here.name x) w → t w ≡ true

  each-variable : (t : FlatVar → Bool) → Wanted t → (w : FlatVar) → Among (flat_vars (walk p)) w → t w ≡ true
  each-variable t wanted w g =
      let s = from-flat (λ (s : Stop). flat_map (var_of s.here.name) s.here.from.sections) (walk p) w g in
      let x = from-flat (var_of s.0.here.name) s.0.here.from.sections w s.2 in
      wanted s.0 x.0 w s.1 x.1 x.2

  values-all : (t : List Value → Bool) (ws : List FlatVar) → ((w : FlatVar) → Among ws w → t w.values ≡ true)
      → list_all (λ (x : Var). t x.values) (map as_variable ws) ≡ true
  values-all t [] g = refl
  values-all t (w ∷ ws) g = and_from (t w.values) _ (g w (inl refl)) (values-all t ws (λ u a. g u (inr a)))

  pub symbols-there : list_all (λ (x : Var). list_all (is_symbol (flat_model p)) x.values) (flat_model p).vars ≡ true
  symbols-there = values-all (list_all (is_symbol m)) (flat_vars (walk p)) (each-variable (λ w. list_all (is_symbol m) w.values) (λ s x w at in_ g.
      values-pass (is_symbol m) (λ b. refl) (λ i. refl) s.here.name x w
      (λ i a. symbol-there i (symbols-named p f s.here.from (visited p f whole s at).from i (among-flat symbols_of s.here.from.sections x i in_ a))) g))

  pub values-there : list_all (λ (x : Var). are_values x.values) (flat_model p).vars ≡ true
  values-there = values-all are_values (flat_vars (walk p)) (each-variable (λ w. are_values w.values) (λ s x w at in_ g.
      values-right s.here.name x w
      (each-passes has_values s.here.from.sections x (each-passes (λ (m : ModuleTree). list_all has_values m.sections) p.modules s.here.from f.enumerations (visited p f whole s at).from) in_) g))

  -- ---- what the model has

  pub flats : HasFlat p (flat_model p)
  flats = record {
    variables = λ d g. let i = among-place (index_of p).vars d g in
        lt-ltb (place_in (index_of p).vars d) (length m.vars)
        (omega (arith, variable-place p h i.0 d i.1, slice_get_within (index_of p).vars i.0 d i.1, length-map (flat_vars (walk p)) (λ (x : FlatVar). x.name), length-map (flat_vars (walk p)) as_variable));
    defines = λ d g. let i = among-place (index_of p).defs d g in
        lt-ltb (place_in (index_of p).defs d) (length m.defines)
        (omega (arith, define-place p h i.0 d i.1, slice_get_within (index_of p).defs i.0 d i.1, length-map (flat_defines (walk p)) (λ (x : FlatDefine). x.name), length-map (flat_defines (walk p)) as_define));
    symbols_named = symbol-named p f;
    names = symbol-there;
  }
