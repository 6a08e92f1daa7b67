-- The numbers of the DEFINEs that arguments become.
use Rattle.std.proofs.Common.{◌≡◌, ℕ, zero, suc, ◌+◌, ◌<◌, ◌≤◌, Bool, true, false, cond, List, [], ◌∷◌, ◌++◌, map, length, take, get_or, slice_get, is_some, Option, Some, None, refl, sym, ap, ◌∙◌, arith}
use Rattle.std.specs.List.{flat_map, zip}
use Rattle.cov_syntax.specs.declared.program.Spelled.{Spelled}
use Rattle.cov_syntax.specs.declared.tree.Expr.{Expr}
use Rattle.cov_modules.specs.Names.{Dotted}
use Rattle.cov_modules.specs.Things.{path_of}
use Rattle.cov_modules.specs.Walk.{Stop}
use Rattle.cov_modules.specs.FlatLists.{FlatDefine, define_of_argument}
use Rattle.cov_paths.specs.Arguments.{defines_of, defines}

-- one more argument
pub defines-more : (es : List Expr) (j : ℕ) (e d : Expr) → j < length es → e ≡ get_or es j d → defines (take (j + 1) es) ≡ defines (take j es) + defines_of e
defines-more [] j e d h is = absurd (omega arith)
defines-more (x ∷ es) zero e d h is = ap (λ (y : Expr). defines_of y + 0) (sym is) ∙ omega arith
defines-more (x ∷ es) (suc j) e d h is =
    let rest = defines-more es j e d (omega arith) is in
    let next : suc j + 1 ≡ suc (j + 1) = omega arith in
    ap (λ n. defines (take n (x ∷ es))) next ∙ omega (arith, rest)

-- the first arguments become no more than all
pub defines-few : (es : List Expr) (j : ℕ) → defines (take j es) ≤ defines es
defines-few es zero = omega arith
defines-few [] (suc j) = omega arith
defines-few (x ∷ es) (suc j) = let rest = defines-few es j in omega arith

-- at most one for each
pub defines-below : (es : List Expr) → defines es ≤ length es
defines-below [] = omega arith
defines-below (x ∷ es) = let rest = defines-below es in let one = at-most (is_some (path_of x)) in omega arith
  where
    at-most : (b : Bool) → cond b 0 1 ≤ 1
    at-most true = omega arith
    at-most false = omega arith

module _ (s : Stop) where
  -- the DEFINE of an argument, by its path
  abbrev define_by : Option Dotted → Spelled → Expr → List FlatDefine
  define_by o f e = cond (is_some o) [] (record { name = s.here.name ++ f.name ∷ []; body = e; place = e.place; reader = s.caller } ∷ [])

  length-by : (o : Option Dotted) (f : Spelled) (e : Expr) (rest : List FlatDefine) (n : ℕ) → length rest ≡ n → length (define_by o f e ++ rest) ≡ cond (is_some o) 0 1 + n
  length-by (Some path) f e rest n h = omega arith
  length-by None f e rest n h = omega arith

  -- as many DEFINEs as arguments that are no paths
  pub defines-length : (fs : List Spelled) (es : List Expr) → length es ≡ length fs → length (flat_map (define_of_argument s) (zip fs es)) ≡ defines es
  defines-length [] [] h = refl
  defines-length [] (e ∷ es) h = absurd (omega arith)
  defines-length (f ∷ fs) [] h = absurd (omega arith)
  defines-length (f ∷ fs) (e ∷ es) h = length-by (path_of e) f e (flat_map (define_of_argument s) (zip fs es)) (defines es) (defines-length fs es (omega arith))

  first-by : (o : Option Dotted) (f : Spelled) (e : Expr) (rest : List FlatDefine) → o ≡ None → slice_get (map (λ (d : FlatDefine). d.name) (define_by o f e ++ rest)) 0 ≡ Some (s.here.name ++ f.name ∷ [])
  first-by (Some path) f e rest h = absurd cc
  first-by None f e rest h = refl

  behind-by : (o : Option Dotted) (f : Spelled) (e : Expr) (rest : List FlatDefine) (n : ℕ) (x : Dotted) → slice_get (map (λ (d : FlatDefine). d.name) rest) n ≡ Some x
      → slice_get (map (λ (d : FlatDefine). d.name) (define_by o f e ++ rest)) (cond (is_some o) 0 1 + n) ≡ Some x
  behind-by (Some path) f e rest n x h = let same : 0 + n ≡ n = omega arith in ap (slice_get (map (λ (d : FlatDefine). d.name) rest)) same ∙ h
  behind-by None f e rest n x h = let next : 1 + n ≡ suc n = omega arith in ap (slice_get ((s.here.name ++ f.name ∷ []) ∷ map (λ (d : FlatDefine). d.name) rest)) next ∙ h

  -- the DEFINE that an argument becomes
  pub define-there : (fs : List Spelled) (es : List Expr) (j : ℕ) (f : Spelled) (e : Expr) → slice_get fs j ≡ Some f → slice_get es j ≡ Some e → path_of e ≡ None
      → slice_get (map (λ (d : FlatDefine). d.name) (flat_map (define_of_argument s) (zip fs es))) (defines (take j es)) ≡ Some (s.here.name ++ f.name ∷ [])
  define-there [] es j f e hf he none = absurd cc
  define-there (g ∷ fs) [] j f e hf he none = absurd cc
  define-there (g ∷ fs) (x ∷ es) zero f e hf he none =
      let same-f : g ≡ f = cc in
      let same-e : x ≡ e = cc in
      first-by (path_of x) g x (flat_map (define_of_argument s) (zip fs es)) (ap path_of same-e ∙ none) ∙ ap (λ (h : Spelled). Some (s.here.name ++ h.name ∷ [])) same-f
  define-there (g ∷ fs) (x ∷ es) (suc j) f e hf he none =
      behind-by (path_of x) g x (flat_map (define_of_argument s) (zip fs es)) (defines (take j es)) (s.here.name ++ f.name ∷ []) (define-there fs es j f e hf he none)
