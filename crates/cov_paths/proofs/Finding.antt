-- What the parts of paths name, by what is found for them.
use Rattle.std.proofs.Common.{◌≡◌, ℕ, zero, suc, ◌+◌, ◌-◌, ◌<◌, ◌≤◌, Bool, true, false, cond, ◌==◌, IsTrue, List, [], ◌∷◌, map, fold, length, take, drop, get_or, slice_get, is_some, option_map, option_and_then, Option, Some, None, refl, sym, ap, subst, ◌∙◌, arith}
use Rattle.std.specs.Option.{option_map_or}
use Rattle.std.proofs.lemmas.List.{take_all, drop_more}
use Rattle.cov_syntax.specs.declared.program.Spelled.{Spelled}
use Rattle.cov_syntax.specs.declared.program.Program.{Program}
use Rattle.cov_syntax.specs.declared.tree.Expr.{Expr}
use Rattle.cov_modules.specs.Names.{Dotted, place_of}
use Rattle.cov_modules.specs.Things.{Thing, Instance, formal, first_part, further_part, named}
use Rattle.cov_modules.specs.Walk.{Stop, argument, arguments, walk}
use Rattle.cov_paths.specs.declared.target.Target.{Target}
use Rattle.cov_paths.specs.Targets.{named_at, IsNamed}
use Rattle.cov_paths.specs.Found.{thing_found, IsThere, first_at, IsFormal, AreNamed}

-- ---- targets and things

-- the thing that is found is the one that is named
pub found-is : (p : Program) (x : Option Target) (t : Option Thing) → IsNamed p x t → thing_found p x ≡ t
found-is p None t h = sym h
found-is p (Some x) t h = h.0

-- and it is there
pub found-there : (p : Program) (x : Option Target) (t : Option Thing) → IsNamed p x t → IsThere p x
found-there p None t h = tt
found-there p (Some x) t h = subst (λ (o : Option Thing). IsTrue (is_some o)) (sym h.0) h.1

-- ---- whole paths

-- nothing is behind nothing
nothing-further : (p : Program) (is : Dotted) → fold (further_part p) None is ≡ None
nothing-further p [] = refl
nothing-further p (i ∷ is) = nothing-further p is

-- a first part, and further ones
pub named-cons : (p : Program) (k i : ℕ) (is : Dotted) → named_at p k (i ∷ is) ≡ fold (further_part p) (first_at p k i) is
named-cons p k i is = by-stop (slice_get (walk p) k)
  where
    by-stop : (o : Option Stop) → option_map_or (λ (s : Stop). named p s.here (i ∷ is)) o None ≡ fold (further_part p) (option_map_or (λ (s : Stop). first_part p s.here i) o None) is
    by-stop None = sym (nothing-further p is)
    by-stop (Some s) = refl

-- what is left of a path behind its first part
pub path-start : (p : Program) (k : ℕ) (path : Dotted) (x : Option Target) → 1 ≤ length path → IsNamed p x (first_at p k (get_or path 0 0))
    → fold (further_part p) (thing_found p x) (take (length path - 1) (drop 1 path)) ≡ named_at p k path
path-start p k [] x h n = absurd (omega arith)
path-start p k (i ∷ is) x h n =
    let all : take (suc (length is) - 1) is ≡ is = take_all (suc (length is) - 1) is (omega arith) in
    ap (fold (further_part p) (thing_found p x)) all ∙ ap (λ t. fold (further_part p) t is) (found-is p x (first_at p k i) n) ∙ sym (named-cons p k i is)

-- and behind one more
pub path-step : (p : Program) (is : Dotted) (n : ℕ) (before x : Option Target) → n < length is → IsNamed p x (further_part p (thing_found p before) (get_or is n 0))
    → fold (further_part p) (thing_found p x) (drop (n + 1) is) ≡ fold (further_part p) (thing_found p before) (drop n is)
path-step p is n before x h named' =
    ap (λ t. fold (further_part p) t (drop (n + 1) is)) (found-is p x (further_part p (thing_found p before) (get_or is n 0)) named')
    ∙ sym (ap (fold (further_part p) (thing_found p before)) (drop_more is n 0 h))

-- ---- formals

-- the names of formals are the first of a list
abbrev pub IsFrontOf : List (ℕ × Option Thing) → List ℕ → Type 0
IsFrontOf [] ns = Unit {0}
IsFrontOf (f ∷ fs) [] = ⊥
IsFrontOf (f ∷ fs) (n ∷ ns) = (f.0 ≡ n) × IsFrontOf fs ns

-- those of arguments
pub arguments-front : (p : Program) (c : Instance) (at : Dotted) (fs : List Spelled) (es : List Expr) → IsFrontOf (arguments p c at fs es) (map (λ (f : Spelled). f.name) fs)
arguments-front p c at [] es = tt
arguments-front p c at (f ∷ fs) [] = tt
arguments-front p c at (f ∷ fs) (e ∷ es) = (refl, arguments-front p c at fs es)

-- the target at a place that may be there
abbrev pub target_at : List (Option Target) → Option ℕ → Option (Option Target)
target_at xs o = option_and_then (slice_get xs) o

-- one formal before the others
formal-before : (p : Program) (x : Option Target) (xs : List (Option Target)) (t : Option Thing) (r : Option (Option Thing)) (b : Bool) (o : Option ℕ)
    → IsNamed p x t → IsFormal p (target_at xs o) r → IsFormal p (target_at (x ∷ xs) (cond b (Some 0) (option_map (λ k. k + 1) o))) (cond b (Some t) r)
formal-before p x xs t r true o n h = n
formal-before p x xs t r false None n h = h
formal-before p x xs t r false (Some k) n h = let next : k + 1 ≡ suc k = omega arith in subst (λ m. IsFormal p (slice_get (x ∷ xs) m) r) (sym next) h

-- a formal is found at the place of its name
pub formal-found : (p : Program) (fs : List (ℕ × Option Thing)) (xs : List (Option Target)) (ns : List ℕ) (i : ℕ) → AreNamed p xs fs → IsFrontOf fs ns → IsFormal p (target_at xs (place_of ns i)) (formal fs i)
formal-found p [] [] ns i n front = none-at (place_of ns i)
  where
    none-at : (o : Option ℕ) → IsFormal p (target_at [] o) None
    none-at None = tt
    none-at (Some k) = tt
formal-found p [] (x ∷ xs) ns i n front = absurd n
formal-found p (f ∷ fs) [] ns i n front = absurd n
formal-found p (f ∷ fs) (x ∷ xs) [] i n front = absurd front
formal-found p (f ∷ fs) (x ∷ xs) (m ∷ ns) i n front =
    subst (λ k. IsFormal p (target_at (x ∷ xs) (cond (k == i) (Some 0) (option_map (λ k. k + 1) (place_of ns i)))) (cond (f.0 == i) (Some f.1) (formal fs i))) front.0
    (formal-before p x xs f.1 (formal fs i) (f.0 == i) (place_of ns i) n.0 (formal-found p fs xs ns i n.1 front.1))

-- the argument at a place
pub argument-there : (p : Program) (c : Instance) (at : Dotted) (fs : List Spelled) (es : List Expr) (j : ℕ) (f : Spelled) (e : Expr) → slice_get fs j ≡ Some f → slice_get es j ≡ Some e
    → slice_get (arguments p c at fs es) j ≡ Some (f.name, argument p c at f e)
argument-there p c at [] es j f e hf he = absurd cc
argument-there p c at (g ∷ fs) [] j f e hf he = absurd cc
argument-there p c at (g ∷ fs) (x ∷ es) zero f e hf he =
    let same-f : g ≡ f = cc in
    let same-e : x ≡ e = cc in
    ap (λ (h : Spelled). Some (h.name, argument p c at h x)) same-f ∙ ap (λ (y : Expr). Some (f.name, argument p c at f y)) same-e
argument-there p c at (g ∷ fs) (x ∷ es) (suc j) f e hf he = argument-there p c at fs es j f e hf he

-- as many as arguments
pub arguments-length : (p : Program) (c : Instance) (at : Dotted) (fs : List Spelled) (es : List Expr) → length es ≡ length fs → length (arguments p c at fs es) ≡ length es
arguments-length p c at [] [] h = refl
arguments-length p c at [] (e ∷ es) h = absurd (omega arith)
arguments-length p c at (f ∷ fs) [] h = refl
arguments-length p c at (f ∷ fs) (e ∷ es) h = ap suc (arguments-length p c at fs es (omega arith))
