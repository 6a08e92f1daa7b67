-- Steps of loops over lists of values.
use Rattle.std.proofs.Common.{◌≡◌, ℕ, suc, ◌+◌, ◌-◌, ◌<◌, ◌≤◌, ℤ, pos, ◌+ℤ◌, Bool, true, false, IsTrue, if◌then◌else◌, nat_lt, List, [], ◌∷◌, ◌++◌, length, drop, get_or, ap, arith, drop-cons, append_assoc, length-append}
use Rattle.std.specs.Int.{int_min, int_max}
use Rattle.cov_syntax.specs.declared.tree.Value.{Value}
use Rattle.cov_syntax.specs.declared.tree.Value.TheVariants as v
use Rattle.cov_model.specs.Values.{number}
use Rattle.cov_model.specs.Kinds.{Kind, hull_of, integers, member, united}

-- the list from a place on begins with what stands there
from : (xs : List Value) (i : ℕ) → i < length xs → drop i xs ≡ get_or xs i (v.Bool false) ∷ drop (i + 1) xs
from xs i h = let e : i + 1 ≡ suc i = omega arith in rw (e) (drop-cons xs i (v.Bool false) h)

pub hull_step : (xs : List Value) (i : ℕ) (low high l h : ℤ) (r : Kind) → i < length xs
    → l ≡ int_min low (number (get_or xs i (v.Bool false))) → h ≡ int_max high (number (get_or xs i (v.Bool false)))
    → hull_of low high (drop i xs) ≡ r → hull_of l h (drop (i + 1) xs) ≡ r
hull_step xs i low high l h r p el eh e =
    let f : drop i xs ≡ get_or xs i (v.Bool false) ∷ drop (i + 1) xs = from xs i p in
    let g : hull_of low high (get_or xs i (v.Bool false) ∷ drop (i + 1) xs) ≡ r = rw f at e in
    cc

pub integers_step : (xs ys r : List Value) (n k m : ℤ) (count i : ℕ) → i < count → k ≡ n → m ≡ n +ℤ pos 1
    → ys ≡ xs ++ v.Int k ∷ [] → xs ++ integers n (count - i) ≡ r → ys ++ integers m (count - (i + 1)) ≡ r
integers_step xs ys r n k m count i p ek em ey e =
    let s : count - i ≡ suc (count - (i + 1)) = omega arith in
    let f : xs ++ (v.Int n ∷ integers (n +ℤ pos 1) (count - (i + 1))) ≡ r = rw s at e in
    let g : (xs ++ v.Int n ∷ []) ++ integers (n +ℤ pos 1) (count - (i + 1)) ≡ xs ++ (v.Int n ∷ integers (n +ℤ pos 1) (count - (i + 1))) = append_assoc xs (v.Int n ∷ []) _ in
    cc

one_more : (b : Bool) (xs ys : List Value) (y : Value) → length xs ≤ length (united xs ys) → length (xs ++ y ∷ []) ≤ length (united (xs ++ y ∷ []) ys)
    → length xs ≤ length (united (if b then xs else xs ++ y ∷ []) ys)
one_more true xs ys y h k = h
one_more false xs ys y h k = omega (arith, length-append xs (y ∷ []))

-- a list grows no shorter by what is joined to it
pub united_longer : (ys xs : List Value) → length xs ≤ length (united xs ys)
united_longer [] xs = omega arith
united_longer (y ∷ ys) xs = one_more (member xs y) xs ys y (united_longer ys xs) (united_longer ys (xs ++ y ∷ []))

pub united_long : (xs ys : List Value) (i : ℕ) → i < length ys → 1024 ≤ length xs → member xs (get_or ys i (v.Bool false)) ≡ false
    → IsTrue (nat_lt 1024 (length (united xs (drop i ys))))
united_long xs ys i p h e =
    let y : Value = get_or ys i (v.Bool false) in
    let rest : List Value = drop (i + 1) ys in
    let l : 1024 < length (united (xs ++ y ∷ []) rest) = omega (arith, length-append xs (y ∷ []), united_longer rest (xs ++ y ∷ [])) in
    let f : united xs (y ∷ rest) ≡ united (xs ++ y ∷ []) rest = ap (λ (b : Bool). united (if b then xs else xs ++ y ∷ []) rest) e in
    rw (from ys i p, f) (grind arith)
