-- The own kind of an expression: Boolean, a number with an interval, or a list of values with at least one symbol.
use Rattle.std.specs.Prelude.{ℕ, zero, suc, ◌+◌, nat_abs, ℤ, pos, ◌+ℤ◌, ◌-ℤ◌, ◌*ℤ◌, neg_ℤ, int_div, int_lt, int_le, Bool, true, false, not, ◌&&◌, if◌then◌else◌, max, List, [], ◌∷◌, ◌++◌, length, slice_get, unwrap_or}
use Rattle.std.specs.Int.{int_min, int_max}
use Rattle.std.specs.List.{list_any, list_all}
use Rattle.cov_syntax.specs.declared.tree.Value.{Value}
use Rattle.cov_syntax.specs.declared.tree.Value.TheVariants as v
use Rattle.cov_syntax.specs.declared.tree.Op1.{Op1}
use Rattle.cov_syntax.specs.declared.tree.Op1.TheVariants as op1
use Rattle.cov_syntax.specs.declared.tree.Op2.{Op2}
use Rattle.cov_syntax.specs.declared.tree.Op2.TheVariants as op2
use Rattle.cov_model.specs.Values.{number, same_value, within}

-- Boolean, the integers from one to another, or a list of values
pub data Kind : Type 0 where
  boolean : Kind
  interval : ℤ → ℤ → Kind
  among : List Value → Kind

-- the kind Boolean
abbrev pub is_boolean : Kind → Bool
is_boolean boolean = true
is_boolean (interval low high) = false
is_boolean (among xs) = false

-- a number with an interval
abbrev pub is_number : Kind → Bool
is_number boolean = false
is_number (interval low high) = true
is_number (among xs) = false

-- the low end of an interval
abbrev pub low_end : Kind → ℤ
low_end (interval low high) = low
low_end _ = pos 0

-- the high end of an interval
abbrev pub high_end : Kind → ℤ
high_end (interval low high) = high
high_end _ = pos 0

-- ---- lists of values

-- the value stands in the list
abbrev pub member : List Value → Value → Bool
member xs x = list_any (λ y. same_value y x) xs

-- the first list, and what the second has besides
abbrev pub united : List Value → List Value → List Value
united xs [] = xs
united xs (y ∷ ys) = united (if member xs y then xs else xs ++ y ∷ []) ys

-- n integers from the low end on
abbrev pub integers : ℤ → ℕ → List Value
integers low zero = []
integers low (suc n) = v.Int low ∷ integers (low +ℤ pos 1) n

-- how many integers an interval has
abbrev pub count : ℤ → ℤ → ℕ
count low high = if int_le low high then nat_abs (high -ℤ low) + 1 else 0

-- the values of a kind
abbrev pub values_of : Kind → List Value
values_of boolean = v.Bool false ∷ v.Bool true ∷ []
values_of (interval low high) = integers low (count low high)
values_of (among xs) = xs

-- the number of values of a kind
abbrev pub width : Kind → ℕ
width boolean = 2
width (interval low high) = count low high
width (among xs) = length xs

-- an integer
abbrev pub is_integer : Value → Bool
is_integer (v.Int n) = true
is_integer _ = false

-- a Boolean
abbrev pub is_truth : Value → Bool
is_truth (v.Bool b) = true
is_truth _ = false

-- the value is of the kind; a list that is a kind has no Boolean
abbrev pub of_kind : Kind → Value → Bool
of_kind boolean (v.Bool b) = true
of_kind boolean _ = false
of_kind (interval low high) x = within low high x
of_kind (among xs) x = not (is_truth x) && member xs x

-- ---- intervals

-- the least interval that has the four results at the ends
abbrev pub hull_of_ends : (ℤ → ℤ → ℤ) → Kind → Kind → Kind
hull_of_ends f a b =
    let p = f (low_end a) (low_end b) in
    let q = f (low_end a) (high_end b) in
    let r = f (high_end a) (low_end b) in
    let s = f (high_end a) (high_end b) in
    interval (int_min (int_min p q) (int_min r s)) (int_max (int_max p q) (int_max r s))

-- the greatest absolute value in an interval
abbrev pub reach : Kind → ℕ
reach k = max (nat_abs (low_end k)) (nat_abs (high_end k))

-- a remainder has the sign of the dividend, passes it never, and is smaller than the divisor
abbrev pub remainders : Kind → Kind → Kind
remainders a b =
    let m = pos (reach b) -ℤ pos 1 in
    interval
    (if int_lt (low_end a) (pos 0) then int_max (low_end a) (neg_ℤ m) else pos 0)
    (if int_lt (pos 0) (high_end a) then int_min (high_end a) m else pos 0)

-- two numbers join in the hull, and else all values of both are listed
abbrev pub join : Kind → Kind → Kind
join (interval a b) (interval c d) = interval (int_min a c) (int_max b d)
join a b = among (united (values_of a) (values_of b))

-- from left to right, two at a time
abbrev pub join_all : Kind → List Kind → Kind
join_all k [] = k
join_all k (l ∷ ls) = join_all (join k l) ls

-- of branches or members: Boolean if one is, else all joined
abbrev pub joined_kind : List Kind → Kind
joined_kind [] = boolean
joined_kind (k ∷ ks) = if list_any is_boolean (k ∷ ks) then boolean else join_all k ks

-- ---- the kinds of variables, and the own kinds of expressions

-- from the least to the greatest
abbrev pub hull_of : ℤ → ℤ → List Value → Kind
hull_of low high [] = interval low high
hull_of low high (x ∷ xs) = hull_of (int_min low (number x)) (int_max high (number x)) xs

-- the kind of a variable with these values
abbrev pub kind_of_values : List Value → Kind
kind_of_values [] = among []
kind_of_values (x ∷ xs) =
    if is_truth x then boolean
    else if list_all is_integer (x ∷ xs) then hull_of (number x) (number x) xs
    else among (x ∷ xs)

-- the kinds of what an expression can read
pub record Kinds : Type 0 where
  pub vars : List Kind
  pub defs : List Kind

-- the kind at a place of a list
abbrev pub kind_at : List Kind → ℕ → Kind
kind_at ks i = unwrap_or (slice_get ks i) boolean

-- the kind of a literal
abbrev pub literal : Value → Kind
literal (v.Bool b) = boolean
literal (v.Int n) = interval n n
literal (v.Sym s) = among (v.Sym s ∷ [])

-- the own kind of an operator with one operand
abbrev pub own_of_one : Op1 → Kind → Kind
own_of_one op1.Neg a = interval (neg_ℤ (high_end a)) (neg_ℤ (low_end a))
own_of_one op1.Next a = a
own_of_one _ a = boolean

-- the own kind of an operator with two operands
abbrev pub own_of_two : Op2 → Kind → Kind → Kind
own_of_two op2.Add a b = hull_of_ends (λ x y. x +ℤ y) a b
own_of_two op2.Sub a b = hull_of_ends (λ x y. x -ℤ y) a b
own_of_two op2.Mul a b = hull_of_ends (λ x y. x *ℤ y) a b
own_of_two op2.Div a b = hull_of_ends int_div a b
own_of_two op2.Mod a b = remainders a b
own_of_two op2.Union a b = joined_kind (a ∷ b ∷ [])
own_of_two _ a b = boolean
