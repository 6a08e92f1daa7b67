-- What is asked of a body: the values under which the DEFINE is read as given ones.
use Rattle.std.proofs.Common.{◌≡◌, ℕ, zero, suc, ◌+◌, ◌-◌, ◌<◌, ◌≤◌, Bool, true, false, not, ◌||◌, List, [], ◌∷◌, ◌++◌, map, length, take, drop, get_or, Option, Some, None, refl, sym, ap, ap₂, ◌∙◌, arith}
use Rattle.std.proofs.Math.Seq.{take-suc}
use Rattle.cov_syntax.specs.declared.tree.Value.{Value}
use Rattle.cov_syntax.specs.declared.tree.Value.TheVariants as v
use Rattle.cov_model.specs.declared.model.Signal.{Signal}
use Rattle.cov_model.specs.declared.model.Signal.TheVariants as signal
use Rattle.cov_model.specs.Kinds.{member}
use Rattle.cov_model.specs.Meaning.{flipped}
use Rattle.cov_model.specs.Types.{has_twice}
use Rattle.cov_model.specs.Values.{inverse, item, same_value}
use Rattle.cov_conditions.specs.Asked.{asked, inverts}

-- ---- values

truths_turned : (a b : Bool) → same_value (v.Bool a) (v.Bool (not b)) ≡ same_value (v.Bool (not a)) (v.Bool b)
truths_turned true true = refl
truths_turned true false = refl
truths_turned false true = refl
truths_turned false false = refl

inverse_turned : (x y : Value) → same_value x (inverse y) ≡ same_value (inverse x) y
inverse_turned (v.Bool a) (v.Bool b) = truths_turned a b
inverse_turned (v.Bool a) (v.Int n) = refl
inverse_turned (v.Bool a) (v.Sym n) = refl
inverse_turned (v.Int m) (v.Bool b) = refl
inverse_turned (v.Int m) (v.Int n) = refl
inverse_turned (v.Int m) (v.Sym n) = refl
inverse_turned (v.Sym m) (v.Bool b) = refl
inverse_turned (v.Sym m) (v.Int n) = refl
inverse_turned (v.Sym m) (v.Sym n) = refl

pub asked_turned : (b : Bool) (x y : Value) → same_value x (asked b y) ≡ same_value (asked b x) y
asked_turned true x y = inverse_turned x y
asked_turned false x y = refl

-- a DEFINE that the flip may name
pub flipped_asked : (flip : Option Signal) (i : ℕ) (x : Value) → flipped flip (signal.Def i) x ≡ asked (inverts flip i) x
flipped_asked None i x = refl
flipped_asked (Some (signal.Def j)) i x = refl
flipped_asked (Some (signal.Var j)) i x = refl

inverse_kept : (x y : Value) → same_value (inverse x) (inverse y) ≡ same_value x y
inverse_kept (v.Bool true) (v.Bool true) = refl
inverse_kept (v.Bool true) (v.Bool false) = refl
inverse_kept (v.Bool false) (v.Bool true) = refl
inverse_kept (v.Bool false) (v.Bool false) = refl
inverse_kept (v.Bool a) (v.Int n) = refl
inverse_kept (v.Bool a) (v.Sym n) = refl
inverse_kept (v.Int m) (v.Bool b) = refl
inverse_kept (v.Int m) (v.Int n) = refl
inverse_kept (v.Int m) (v.Sym n) = refl
inverse_kept (v.Sym m) (v.Bool b) = refl
inverse_kept (v.Sym m) (v.Int n) = refl
inverse_kept (v.Sym m) (v.Sym n) = refl

asked_kept : (b : Bool) (x y : Value) → same_value (asked b x) (asked b y) ≡ same_value x y
asked_kept true x y = inverse_kept x y
asked_kept false x y = refl

-- ---- lists of values

pub length-asked : (b : Bool) (xs : List Value) → length (map (asked b) xs) ≡ length xs
length-asked b [] = refl
length-asked b (x ∷ xs) = ap suc (length-asked b xs)

pub item_asked : (b : Bool) (xs : List Value) (k : ℕ) → k < length xs → item (map (asked b) xs) k ≡ asked b (item xs k)
item_asked b [] k lt = absurd (omega arith)
item_asked b (x ∷ xs) zero lt = refl
item_asked b (x ∷ xs) (suc k) lt = item_asked b xs k (omega arith)

member_asked : (b : Bool) (xs : List Value) (x : Value) → member (map (asked b) xs) (asked b x) ≡ member xs x
member_asked b [] x = refl
member_asked b (y ∷ ys) x = ap₂ (λ s t. s || t) (asked_kept b y x) (member_asked b ys x)

pub twice_asked : (b : Bool) (xs : List Value) → has_twice (map (asked b) xs) ≡ has_twice xs
twice_asked b [] = refl
twice_asked b (x ∷ xs) = ap₂ (λ s t. s || t) (member_asked b xs x) (twice_asked b xs)

-- one more value is asked
drop_at : (xs : List Value) (first n : ℕ) (d : Value) → get_or (drop first xs) n d ≡ get_or xs (first + n) d
drop_at xs zero n d = ap (λ k. get_or xs k d) plain
  where
    plain : n ≡ 0 + n
    plain = omega arith
drop_at [] (suc first) n d = refl
drop_at (x ∷ xs) (suc first) n d = drop_at xs first n d ∙ ap (λ k. get_or (x ∷ xs) k d) next
  where
    next : suc (first + n) ≡ suc first + n
    next = omega arith

map_last : (f : Value → Value) (xs : List Value) (x : Value) → map f (xs ++ x ∷ []) ≡ map f xs ++ f x ∷ []
map_last f [] x = refl
map_last f (y ∷ ys) x = ap (λ zs. f y ∷ zs) (map_last f ys x)

pub length-dropped : (xs : List Value) (first : ℕ) → first ≤ length xs → first + length (drop first xs) ≡ length xs
length-dropped xs zero le = omega arith
length-dropped [] (suc first) le = absurd (omega arith)
length-dropped (x ∷ xs) (suc first) le = let r = length-dropped xs first (omega arith) in omega (arith, r)

pub asked_turn : (b : Bool) (values found : List Value) (first k : ℕ) (d y : Value) → first ≤ k → k < length values → y ≡ asked b (get_or values k d)
    → found ≡ map (asked b) (take (k - first) (drop first values)) → found ++ y ∷ [] ≡ map (asked b) (take (k + 1 - first) (drop first values))
asked_turn b values found first k d y le lt made e =
    let n : ℕ = k - first in
    let next : k + 1 - first ≡ suc n = omega arith in
    let at : first + n ≡ k = omega arith in
    let rest : first + length (drop first values) ≡ length values = length-dropped values first (omega arith) in
    let here : get_or (drop first values) n d ≡ get_or values k d = drop_at values first n d ∙ ap (λ j. get_or values j d) at in
    ap₂ (λ (ys : List Value) (z : Value). ys ++ z ∷ []) e made
    ∙ sym (map_last (asked b) (take n (drop first values)) (get_or values k d))
    ∙ ap (λ (z : Value). map (asked b) (take n (drop first values) ++ z ∷ [])) (sym here)
    ∙ ap (map (asked b)) (sym (take-suc (drop first values) n d (omega arith)))
    ∙ ap (λ j. map (asked b) (take j (drop first values))) (sym next)
