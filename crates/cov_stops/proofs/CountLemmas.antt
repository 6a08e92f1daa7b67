-- How many variables and DEFINEs a stop has.
use Rattle.std.proofs.Common.{◌≡◌, ◌+◌, Bool, true, false, not, cond, List, [], ◌∷◌, ◌++◌, length, count_by, is_some, refl, ap, ◌∙◌, arith, length-append}
use Rattle.std.specs.List.{flat_map, zip}
use Rattle.std.proofs.lemmas.List.Sums.{sum_by-cons}
use Rattle.cov_syntax.specs.declared.program.Spelled.{Spelled}
use Rattle.cov_syntax.specs.declared.program.TypeTree.TheVariants as type
use Rattle.cov_syntax.specs.declared.program.Section.{Section}
use Rattle.cov_syntax.specs.declared.program.Section.TheVariants as section
use Rattle.cov_syntax.specs.declared.tree.Expr.{Expr}
use Rattle.cov_modules.specs.Names.{Dotted}
use Rattle.cov_modules.specs.Things.{Instance, path_of}
use Rattle.cov_modules.specs.Walk.{Stop}
use Rattle.cov_modules.specs.FlatLists.{var_of, FlatDefine, define_of_argument, define_of, defines_at}
use Rattle.cov_stops.specs.Counted.{is_variable, is_define, becomes_define}
use Rattle.cov_stops.specs.Touring.{argument_defines}

-- one more item
pub count-cons : {A : Type 0} → (t : A → Bool) (x : A) (xs : List A) → count_by t (x ∷ xs) ≡ cond (t x) 1 0 + count_by t xs
count-cons t x xs = sum_by-cons (λ y. cond (t y) 1 0) x xs

-- one list is as long as a count, where each item counts as long as its own
by-items : {A B : Type 0} → (t : A → Bool) (f : A → List B) → ((x : A) → cond (t x) 1 0 ≡ length (f x)) → (xs : List A) → count_by t xs ≡ length (flat_map f xs)
by-items t f h [] = refl
by-items t f h (x ∷ xs) = let rest = by-items t f h xs in omega (arith, rest, h x, count-cons t x xs, length-append (f x) (flat_map f xs))

-- the variables of a module
pub count-variables : (at : Dotted) (ss : List Section) → count_by is_variable ss ≡ length (flat_map (var_of at) ss)
count-variables at = by-items is_variable (var_of at) by-section
  where
    by-section : (s : Section) → cond (is_variable s) 1 0 ≡ length (var_of at s)
    by-section (section.Decl name (type.Instance from given) place) = refl
    by-section (section.Decl name type.Boolean place) = refl
    by-section (section.Decl name (type.List values) place) = refl
    by-section (section.Decl name (type.Between low high) place) = refl
    by-section (section.Define name body) = refl
    by-section (section.Assign when target body) = refl
    by-section (section.Cond kind body) = refl

-- the DEFINEs of a module
pub count-defines : (x : Instance) (ss : List Section) → count_by is_define ss ≡ length (flat_map (define_of x) ss)
count-defines x = by-items is_define (define_of x) by-section
  where
    by-section : (s : Section) → cond (is_define s) 1 0 ≡ length (define_of x s)
    by-section (section.Decl name kind place) = refl
    by-section (section.Define name body) = refl
    by-section (section.Assign when target body) = refl
    by-section (section.Cond kind body) = refl

-- the DEFINEs that the arguments become
pub count-arguments : (s : Stop) (fs : List Spelled) (es : List Expr) → length es ≡ length fs → count_by becomes_define es ≡ length (flat_map (define_of_argument s) (zip fs es))
count-arguments s [] [] h = refl
count-arguments s [] (e ∷ es) h = absurd (omega arith)
count-arguments s (f ∷ fs) [] h = absurd (omega arith)
count-arguments s (f ∷ fs) (e ∷ es) h =
    let rest = count-arguments s fs es (omega arith) in
    omega (arith, rest, by-test (is_some (path_of e)) (record { name = s.here.name ++ f.name ∷ []; body = e; place = e.place; reader = s.caller }), count-cons becomes_define e es, length-append (define_of_argument s (f, e)) (flat_map (define_of_argument s) (zip fs es)))
  where
    by-test : (b : Bool) (d : FlatDefine) → cond (not b) 1 0 ≡ length (cond b [] (d ∷ []))
    by-test true d = refl
    by-test false d = refl

-- the DEFINEs of a stop
pub count-all : (s : Stop) → length (defines_at s) ≡ argument_defines s + count_by is_define s.here.from.sections
count-all s =
    length-append (flat_map (define_of_argument s) (zip s.here.from.formals s.given)) (flat_map (define_of s.here) s.here.from.sections)
    ∙ ap (λ n. argument_defines s + n) (by-define s)
  where
    by-define : (s : Stop) → length (flat_map (define_of s.here) s.here.from.sections) ≡ count_by is_define s.here.from.sections
    by-define s = let h = count-defines s.here s.here.from.sections in omega arith
