-- What the tests of `not`, `and` and `or` say.
use Rattle.std.proofs.Common.{Bool, not, ◌&&◌, ◌||◌, IsTrue, ◌⊎◌, ◌↔◌, inl, inr}
use Rattle.std.proofs.lemmas.Bool.{and_parts, and_from, or_cases, or_left, or_right, not-true, not_from_false, false_from_ne_true, both_ways}

pub not_is : (x : Bool) → IsTrue (not x) ↔ ¬ IsTrue x
not_is x = (λ e h. both_ways x (not-true x e) h, λ n. not_from_false x (false_from_ne_true x n))

pub and_is : (x y : Bool) → IsTrue (x && y) ↔ (IsTrue x × IsTrue y)
and_is x y = (and_parts x y, λ (a, b). and_from x y a b)

pub or_is : (x y : Bool) → IsTrue (x || y) ↔ (IsTrue x ⊎ IsTrue y)
or_is x y = (or_cases x y, λ h. elim h [ inl a ↦ or_left x y a | inr b ↦ or_right x y b ])
