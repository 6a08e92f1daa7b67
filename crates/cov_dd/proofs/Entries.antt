-- What a look-up in a list of pairs finds.
use Rattle.std.proofs.Common.{◌≡◌, zero, suc, List, [], ◌∷◌, Bool, true, false, cond, Option, Some, None, IfSome, IfNone, Contains, refl, sym, ◌∙◌, ap, arith}
use Rattle.std.specs.Map.{lookup}

further : {X : Type 0} (e : X) (es : List X) (x : X) → Contains es x → Contains (e ∷ es) x
further e es x (k, lt, at) = (suc k, omega arith, at)

found_by : {K X : Type 0} (eq : K → K → Bool) → ((a b : K) → eq a b ≡ true → a ≡ b) → (x : K × X) (es : List (K × X)) (f : K) (v : X) (b : Bool) → eq f x.0 ≡ b → (lookup (eq f) es ≡ Some v → Contains es (f, v)) → cond b (Some x.1) (lookup (eq f) es) ≡ Some v → Contains (x ∷ es) (f, v)
found_by eq exact x es f v true h rest e = let value : x.1 ≡ v = cc in let key : f ≡ x.0 = exact f x.0 h in (0, omega arith, ap (λ k. (k, x.1)) (sym key) ∙ ap (λ w. (f, w)) value)
found_by eq exact x es f v false h rest e = further x es (f, v) (rest e)

-- what a look-up finds is among the entries
pub found : {K X : Type 0} (eq : K → K → Bool) → ((a b : K) → eq a b ≡ true → a ≡ b) → (es : List (K × X)) (f : K) (v : X) → lookup (eq f) es ≡ Some v → Contains es (f, v)
found eq exact [] f v e = cc
found eq exact (x ∷ es) f v e = found_by eq exact x es f v (eq f x.0) refl (found eq exact es f v) e

absent_by : {K X : Type 0} (eq : K → K → Bool) → ((a : K) → eq a a ≡ true) → (x : K × X) (es : List (K × X)) (f : K) (v : X) (b : Bool) → eq f x.0 ≡ b → (lookup (eq f) es ≡ None → Contains es (f, v) → ⊥) → cond b (Some x.1) (lookup (eq f) es) ≡ None → Contains (x ∷ es) (f, v) → ⊥
absent_by {K} {X} eq alike x es f v true h rest e c = cc
absent_by {K} {X} eq alike x es f v false h rest e (zero, lt, at) = let same : eq f x.0 ≡ eq f f = ap (λ (p : K × X). eq f p.0) at in let yes : eq f f ≡ true = alike f in cc
absent_by {K} {X} eq alike x es f v false h rest e (suc k, lt, at) = rest e (k, omega arith, at)

-- what a look-up does not find is not
pub absent : {K X : Type 0} (eq : K → K → Bool) → ((a : K) → eq a a ≡ true) → (es : List (K × X)) (f : K) (v : X) → lookup (eq f) es ≡ None → Contains es (f, v) → ⊥
absent eq alike [] f v e (k, lt, at) = omega arith
absent eq alike (x ∷ es) f v e c = absent_by eq alike x es f v (eq f x.0) refl (absent eq alike es f v) e c

-- an insertion of a key that is not there goes last
pub appended : {K X : Type 0} (eq : K → K → Bool) → ((a b : K) → eq a b ≡ true → a ≡ b) → (es : List (K × X)) (f : K) (v : X) → ((w : X) → Contains es (f, w) → ⊥) → lookup (eq f) es ≡ None
appended {K} {X} eq exact es f v none = none_by (lookup (eq f) es) refl where
  none_by : (o : Option X) → lookup (eq f) es ≡ o → lookup (eq f) es ≡ None
  none_by None e = e
  none_by (Some w) e = absurd (none w (found eq exact es f w e))

-- the same, of what a look-up gave
pub if_found : {K X : Type 0} (eq : K → K → Bool) → ((a b : K) → eq a b ≡ true → a ≡ b) → (es : List (K × X)) (f : K) (o : Option X) → lookup (eq f) es ≡ o → IfSome o (λ r. Contains es (f, r))
if_found eq exact es f None e = tt
if_found eq exact es f (Some r) e = found eq exact es f r e

pub if_absent : {K X : Type 0} (eq : K → K → Bool) → ((a : K) → eq a a ≡ true) → (es : List (K × X)) (f : K) (o : Option X) → lookup (eq f) es ≡ o → IfNone o ((r : X) × Contains es (f, r) → ⊥)
if_absent eq alike es f None e = λ (r, c). absent eq alike es f r e c
if_absent eq alike es f (Some r) e = tt
