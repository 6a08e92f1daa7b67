-- What a refusal tells of the first fault of a list.
use Rattle.std.proofs.Common.{◌≡◌, List, [], ◌∷◌, ◌++◌, map, Option, Some, None, Result, Err, refl, sym, subst}
use Rattle.std.specs.Result.{IfErr}
use Rattle.cov_syntax.specs.declared.fault.ModelFault.{ModelFault}
use Rattle.cov_syntax.specs.declared.fault.Refused.{Refused}
use Rattle.cov_syntax.specs.declared.fault.Refused.TheVariants.{Fault, Memory}
use Rattle.cov_model.specs.declared.model.Define.{Define}
use Rattle.cov_model.specs.Order.{circular}
use Rattle.cov_model.specs.Walk.{first}
use Rattle.cov_order.specs.Answer.{IsCircle}
use Rattle.cov_walk.specs.Found.{TellsFault}

-- a list without fault is passed over
pub first_behind : (xs ys : List (Option ModelFault)) → first xs ≡ None → first (xs ++ ys) ≡ first ys
first_behind [] ys h = refl
first_behind (None ∷ xs) ys h = first_behind xs ys h
first_behind (Some x ∷ xs) ys h = cc

first_before : (xs ys : List (Option ModelFault)) (f : ModelFault) → first xs ≡ Some f → first (xs ++ ys) ≡ Some f
first_before [] ys f h = cc
first_before (None ∷ xs) ys f h = first_before xs ys f h
first_before (Some x ∷ xs) ys f h = h

-- the fault of the first list is that of both
pub tells_before : (xs ys : List (Option ModelFault)) (e : Refused) → TellsFault (first xs) e → TellsFault (first (xs ++ ys)) e
tells_before xs ys Memory h = tt
tells_before xs ys (Fault f) h = first_before xs ys f h

-- behind a list without fault the fault of the second list is that of both
pub tells_behind : (xs ys : List (Option ModelFault)) (e : Refused) → first xs ≡ None → TellsFault (first ys) e → TellsFault (first (xs ++ ys)) e
tells_behind xs ys e none h = subst (λ (f : Option ModelFault). TellsFault f e) (sym (first_behind xs ys none)) h

-- the fault of the first place is that of the list
pub tells_front : (x : Option ModelFault) (xs : List (Option ModelFault)) (e : Refused) → TellsFault x e → TellsFault (first (x ∷ xs)) e
tells_front None xs Memory h = tt
tells_front (Some x) xs Memory h = tt
tells_front None xs (Fault f) h = cc
tells_front (Some x) xs (Fault f) h = h

-- a place without fault is passed over
pub tells_next : (x : Option ModelFault) (xs : List (Option ModelFault)) (e : Refused) → x ≡ None → TellsFault (first xs) e → TellsFault (first (x ∷ xs)) e
tells_next None xs e none h = h
tells_next (Some x) xs e none h = cc

-- a refusal that names a circle tells the fault of the circles
pub circle_tells : (ds : List Define) (e : Refused) → IsCircle ds e → TellsFault (circular ds) e
circle_tells ds Memory h = tt
circle_tells ds (Fault f) h = h

-- neither has a fault
pub none_both : (xs ys : List (Option ModelFault)) → first xs ≡ None → first ys ≡ None → first (xs ++ ys) ≡ None
none_both [] ys h k = k
none_both (None ∷ xs) ys h k = none_both xs ys h k
none_both (Some x ∷ xs) ys h k = cc

-- none at the front and none behind it
pub none_front : (x : Option ModelFault) (xs : List (Option ModelFault)) → x ≡ None → first xs ≡ None → first (x ∷ xs) ≡ None
none_front None xs h k = k
none_front (Some x) xs h k = cc

-- what the exit of a `?` tells
pub exit_tells : {X : Type 0} (r : Result X Refused) (e : Refused) (f : Option ModelFault) → r ≡ Err e → TellsFault f e → IfErr r (TellsFault f)
exit_tells r e f is h = subst (λ (q : Result _ Refused). IfErr q (TellsFault f)) (sym is) h
