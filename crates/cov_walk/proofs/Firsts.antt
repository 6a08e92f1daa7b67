-- The first of a list of faults, and what it tells.
use Rattle.std.proofs.Common.{◌≡◌, Bool, true, false, if◌then◌else◌, List, [], ◌∷◌, ◌++◌, map, Option, Some, None, refl, ap, sym, subst, ◌∙◌}
use Rattle.std.specs.Prelude.{option_map}
use Rattle.std.proofs.lemmas.List.{map-append}
use Rattle.cov_syntax.specs.declared.tree.Span.{Span}
use Rattle.cov_syntax.specs.declared.fault.ModelFault.{ModelFault}
use Rattle.cov_syntax.specs.declared.fault.Refused.{Refused}
use Rattle.cov_syntax.specs.declared.fault.Refused.TheVariants.{Fault, Memory}
use Rattle.cov_model.specs.Walk.{first, kind}
use Rattle.cov_walk.specs.Found.{TellsFault}

-- ---- the first

pub first_past : {A : Type 0} (x : Option A) (xs : List (Option A)) → x ≡ None → first (x ∷ xs) ≡ first xs
first_past None xs h = refl
first_past (Some x) xs h = cc

pub first_behind : {A : Type 0} (xs ys : List (Option A)) → first xs ≡ None → first (xs ++ ys) ≡ first ys
first_behind [] ys h = refl
first_behind (None ∷ xs) ys h = first_behind xs ys h
first_behind (Some x ∷ xs) ys h = cc

-- a front counts as its first
pub first_front : {A : Type 0} (xs ys : List (Option A)) → first (xs ++ ys) ≡ first (first xs ∷ ys)
first_front [] ys = refl
first_front (None ∷ xs) ys = first_front xs ys
first_front (Some x ∷ xs) ys = refl

pub first_one : {A : Type 0} (x : Option A) → first (x ∷ []) ≡ x
first_one None = refl
first_one (Some x) = refl

-- one more behind
pub first_more : {A B : Type 0} (f : A → Option B) (xs : List A) (x : A) → first (map f (xs ++ x ∷ [])) ≡ first (first (map f xs) ∷ f x ∷ [])
first_more f xs x = ap first (map-append f xs (x ∷ [])) ∙ first_front (map f xs) (f x ∷ [])

-- behind one test, a front counts as its first
pub first_second : {A : Type 0} (x : Option A) (xs ys : List (Option A)) → first (x ∷ (xs ++ ys)) ≡ first (x ∷ first xs ∷ ys)
first_second None xs ys = first_front xs ys
first_second (Some x) xs ys = refl

-- ---- Kind of the first

abbrev pub kind_at_place : Option Span → Option ModelFault
kind_at_place o = option_map (λ (place : Span). record { code = kind; place = place }) o

marked_front : (o : Option Span) (xs : List (Option ModelFault)) (ys : List (Option Span)) → first xs ≡ kind_at_place (first ys) → first (kind_at_place o ∷ xs) ≡ kind_at_place (first (o ∷ ys))
marked_front None xs ys h = h
marked_front (Some place) xs ys h = refl

pub first_marked : {A : Type 0} (g : A → Option ModelFault) (f : A → Option Span) → ((x : A) → g x ≡ kind_at_place (f x)) → (xs : List A) → first (map g xs) ≡ kind_at_place (first (map f xs))
first_marked g f h [] = refl
first_marked g f h (x ∷ xs) = ap (λ (o : Option ModelFault). first (o ∷ map g xs)) (h x) ∙ marked_front (f x) (map g xs) (map f xs) (first_marked g f h xs)

pub marked_if : (b : Bool) (o : Option Span) → (if b then kind_at_place o else None) ≡ kind_at_place (if b then o else None)
marked_if true o = refl
marked_if false o = refl

-- ---- what is told

pub tells_first : (x : Option ModelFault) (xs : List (Option ModelFault)) (r : Refused) → TellsFault x r → TellsFault (first (x ∷ xs)) r
tells_first x xs Memory h = tt
tells_first None xs (Fault f) h = cc
tells_first (Some g) xs (Fault f) h = h

pub tells_next : (x : Option ModelFault) (xs : List (Option ModelFault)) (r : Refused) → x ≡ None → TellsFault (first xs) r → TellsFault (first (x ∷ xs)) r
tells_next x xs Memory e h = tt
tells_next None xs (Fault f) e h = h
tells_next (Some g) xs (Fault f) e h = cc

-- the first of three tests
pub told_first : (o x y w : Option ModelFault) (r : Refused) → o ≡ first (x ∷ y ∷ w ∷ []) → TellsFault x r → TellsFault o r
told_first o x y w r e h = subst (λ (z : Option ModelFault). TellsFault z r) (sym e) (tells_first x (y ∷ w ∷ []) r h)

pub told_second : (o x y w : Option ModelFault) (r : Refused) → o ≡ first (x ∷ y ∷ w ∷ []) → x ≡ None → TellsFault y r → TellsFault o r
told_second o x y w r e n h = subst (λ (z : Option ModelFault). TellsFault z r) (sym e) (tells_next x (y ∷ w ∷ []) r n (tells_first y (w ∷ []) r h))

pub told_third : (o x y w : Option ModelFault) (r : Refused) → o ≡ first (x ∷ y ∷ w ∷ []) → x ≡ None → y ≡ None → TellsFault w r → TellsFault o r
told_third o x y w r e n n' h = subst (λ (z : Option ModelFault). TellsFault z r) (sym e) (tells_next x (y ∷ w ∷ []) r n (tells_next y (w ∷ []) r n' (tells_first w [] r h)))
