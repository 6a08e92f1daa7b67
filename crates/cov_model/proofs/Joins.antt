-- A kind lies in a join that has it.
use Rattle.std.proofs.Common.{◌≡◌, Bool, true, false, ◌||◌, if◌then◌else◌, IsTrue, ◌⊎◌, inl, inr, ℤ, pos, negsuc, List, [], ◌∷◌, ◌++◌, refl, subst, arith}
use Rattle.std.specs.List.{list_any}
use Rattle.std.proofs.lemmas.Int.{ints, clamps}
use Rattle.cov_syntax.specs.declared.tree.Value.{Value}
use Rattle.cov_syntax.specs.declared.tree.Value.TheVariants as v
use Rattle.cov_model.specs.Values.{same_value, within, machine}
use Rattle.cov_model.specs.Kinds.{interval, of_kind, member, united, join}
use Rattle.cov_model.proofs.Kept.{bounds, within_bounds}

pub or_left : (a b : Bool) → IsTrue a → IsTrue (a || b)
or_left true b h = refl
or_left false b h = cc

pub or_right : (a b : Bool) → IsTrue b → IsTrue (a || b)
or_right true b h = refl
or_right false b h = h

pub or_case : (a b : Bool) → IsTrue (a || b) → IsTrue a ⊎ IsTrue b
or_case true b h = inl refl
or_case false b h = inr h

pub any_left : {A : Type 0} (p : A → Bool) (xs ys : List A) → IsTrue (list_any p xs) → IsTrue (list_any p (xs ++ ys))
any_left p [] ys h = cc
any_left p (x ∷ xs) ys h = elim (or_case (p x) (list_any p xs) h) [ inl k ↦ or_left (p x) _ k | inr k ↦ or_right (p x) _ (any_left p xs ys k) ]

pub any_right : {A : Type 0} (p : A → Bool) (xs ys : List A) → IsTrue (list_any p ys) → IsTrue (list_any p (xs ++ ys))
any_right p [] ys h = h
any_right p (x ∷ xs) ys h = or_right (p x) _ (any_right p xs ys h)

-- the same value is an equal value
pub same_value-eq : (a b : Value) → IsTrue (same_value a b) → a ≡ b
same_value-eq a b h = grind (arith, ints)

grown_left : (xs : List Value) (y x : Value) (b : Bool) → IsTrue (member xs x) → IsTrue (member (if b then xs else xs ++ y ∷ []) x)
grown_left xs y x true h = h
grown_left xs y x false h = any_left _ xs (y ∷ []) h

grown_last : (xs : List Value) (y x : Value) (b : Bool) → member xs y ≡ b → IsTrue (same_value y x) → IsTrue (member (if b then xs else xs ++ y ∷ []) x)
grown_last xs y x true e h = subst (λ z. IsTrue (member xs z)) (same_value-eq y x h) e
grown_last xs y x false e h = any_right _ xs (y ∷ []) (or_left _ _ h)

pub member-united_left : (xs ys : List Value) (x : Value) → IsTrue (member xs x) → IsTrue (member (united xs ys) x)
member-united_left xs [] x h = h
member-united_left xs (y ∷ ys) x h = member-united_left (if member xs y then xs else xs ++ y ∷ []) ys x (grown_left xs y x (member xs y) h)

pub member-united_right : (xs ys : List Value) (x : Value) → IsTrue (member ys x) → IsTrue (member (united xs ys) x)
member-united_right xs [] x h = cc
member-united_right xs (y ∷ ys) x h = elim (or_case (same_value y x) (member ys x) h) [
  | inl k ↦ member-united_left (if member xs y then xs else xs ++ y ∷ []) ys x (grown_last xs y x (member xs y) refl k)
  | inr k ↦ member-united_right (if member xs y then xs else xs ++ y ∷ []) ys x k
]

-- two intervals join in an interval that has both
pub interval-join_left : (a b c d x : ℤ) → IsTrue (within a b (v.Int x)) → IsTrue (of_kind (join (interval a b) (interval c d)) (v.Int x))
interval-join_left a b c d x h = let r = bounds a b x h in within_bounds _ _ x (omega (arith, ints, clamps, r)) (omega (arith, ints, clamps, r))

pub interval-join_right : (a b c d x : ℤ) → IsTrue (within c d (v.Int x)) → IsTrue (of_kind (join (interval a b) (interval c d)) (v.Int x))
interval-join_right a b c d x h = let r = bounds c d x h in within_bounds _ _ x (omega (arith, ints, clamps, r)) (omega (arith, ints, clamps, r))

-- a number of an interval within the language's limits is a machine's number
pub machine-small : (x : ℤ) → IsTrue (within (negsuc 999999) (pos 1000000) (v.Int x)) → machine x ≡ x
machine-small x h = grind (arith, ints)
