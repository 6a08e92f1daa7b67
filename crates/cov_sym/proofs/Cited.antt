-- What a well-formed model says of its assignments.
use Rattle.std.proofs.Common.{◌≡◌, ◌<◌, ◌++◌, ◌&&◌, ℕ, zero, suc, List, [], ◌∷◌, Bool, true, Some, length, sym, subst, ◌∙◌}
use Rattle.std.specs.Prelude.{slice_get, nat_lt}
use Rattle.std.specs.List.{list_all}
use Rattle.std.proofs.lemmas.Bool.{and_parts, ltb-true}
use Rattle.std.proofs.lemmas.List.Folds.{list_all-append}
use Rattle.cov_model.specs.declared.model.Assign.{Assign}
use Rattle.cov_model.specs.declared.model.Model.{Model}
use Rattle.cov_model.specs.WellFormed.{IsWellFormed, cites}

at_each : {A : Type 0} (p : A → Bool) (xs : List A) (i : ℕ) (x : A) → list_all p xs ≡ true → slice_get xs i ≡ Some x → p x ≡ true
at_each p [] i x all h = cc
at_each p (y ∷ ys) zero x all h = let is : y ≡ x = cc in subst (λ z. p z ≡ true) is (and_parts (p y) (list_all p ys) all).0
at_each p (y ∷ ys) (suc i) x all h = at_each p ys i x (and_parts (p y) (list_all p ys) all).1 h

left_all : {A : Type 0} (p : A → Bool) (xs ys : List A) → list_all p (xs ++ ys) ≡ true → list_all p xs ≡ true
left_all p xs ys all = (and_parts (list_all p xs) (list_all p ys) (sym (list_all-append p xs ys) ∙ all)).0

right_all : {A : Type 0} (p : A → Bool) (xs ys : List A) → list_all p (xs ++ ys) ≡ true → list_all p ys ≡ true
right_all p xs ys all = (and_parts (list_all p xs) (list_all p ys) (sym (list_all-append p xs ys) ∙ all)).1

abbrev assigns : Model → Assign → Bool
assigns m a = nat_lt a.var (length m.vars) && cites m a.body

there : (m : Model) (assigned : List Assign) (i : ℕ) (a : Assign) → list_all (assigns m) assigned ≡ true → slice_get assigned i ≡ Some a → a.var < length m.vars
there m assigned i a all h = ltb-true a.var (length m.vars) (and_parts (nat_lt a.var (length m.vars)) (cites m a.body) (at_each (assigns m) assigned i a all h)).0

pub nows_there : (m : Model) → IsWellFormed m → (i : ℕ) (a : Assign) → slice_get m.nows i ≡ Some a → a.var < length m.vars
nows_there m formed i a = there m m.nows i a (left_all (assigns m) m.nows m.firsts (left_all (assigns m) (m.nows ++ m.firsts) m.nexts formed.assigned))

pub firsts_there : (m : Model) → IsWellFormed m → (i : ℕ) (a : Assign) → slice_get m.firsts i ≡ Some a → a.var < length m.vars
firsts_there m formed i a = there m m.firsts i a (right_all (assigns m) m.nows m.firsts (left_all (assigns m) (m.nows ++ m.firsts) m.nexts formed.assigned))

pub nexts_there : (m : Model) → IsWellFormed m → (i : ℕ) (a : Assign) → slice_get m.nexts i ≡ Some a → a.var < length m.vars
nexts_there m formed i a = there m m.nexts i a (right_all (assigns m) (m.nows ++ m.firsts) m.nexts formed.assigned)
