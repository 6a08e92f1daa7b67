-- Values, and what the operators make of them. A value of another kind reads as FALSE or as 0.
use Rattle.std.specs.Prelude.{ℕ, ℤ, pos, negsuc, ◌+ℤ◌, ◌-ℤ◌, ◌*ℤ◌, int_div, int_lt, int_le, Bool, false, not, ◌&&◌, ◌||◌, if◌then◌else◌, ◌==◌, List, slice_get, unwrap_or}
use Rattle.std.specs.Ordering.{int_eq}
use Rattle.cov_syntax.specs.declared.tree.Value.{Value}
use Rattle.cov_syntax.specs.declared.tree.Value.TheVariants as v
use Rattle.cov_syntax.specs.declared.tree.Op2.{Op2}
use Rattle.cov_syntax.specs.declared.tree.Op2.TheVariants as op2

-- whether a value is TRUE
abbrev pub truth : Value → Bool
truth (v.Bool b) = b
truth (v.Int n) = false
truth (v.Sym n) = false

-- the number that a value is
abbrev pub number : Value → ℤ
number (v.Bool b) = pos 0
number (v.Int n) = n
number (v.Sym n) = pos 0

-- both TRUE or both FALSE
abbrev pub same_truth : Bool → Bool → Bool
same_truth a b = if a then b else not b

-- the same value
abbrev pub same_value : Value → Value → Bool
same_value (v.Bool a) (v.Bool b) = same_truth a b
same_value (v.Int a) (v.Int b) = int_eq a b
same_value (v.Sym a) (v.Sym b) = a == b
same_value _ _ = false

-- the value with TRUE and FALSE exchanged
abbrev pub inverse : Value → Value
inverse (v.Bool b) = v.Bool (not b)
inverse (v.Int n) = v.Int n
inverse (v.Sym n) = v.Sym n

-- the integers of a range
abbrev pub within : ℤ → ℤ → Value → Bool
within low high (v.Int n) = int_le low n && int_le n high
within low high _ = false

-- the value at a place of a list
abbrev pub item : List Value → ℕ → Value
item xs i = unwrap_or (slice_get xs i) (v.Bool false)

-- the quotient is rounded toward zero, and the remainder is what it leaves
abbrev pub remainder : ℤ → ℤ → ℤ
remainder a b = a -ℤ (b *ℤ int_div a b)

-- whole numbers are what they are; a machine's number that has more than 32 bits is read as 0
abbrev pub whole : ℤ → ℤ
whole n = n

-- a number of 32 bits
abbrev pub is_small : ℤ → Bool
is_small n = int_le (negsuc 2147483647) n && int_le n (pos 2147483647)

-- a number as the machine keeps it
abbrev pub machine : ℤ → ℤ
machine n = if is_small n then n else pos 0

-- an operator on the values of its two sides; each number that it makes is taken through `fit`
abbrev pub operated : (ℤ → ℤ) → Op2 → Value → Value → Value
operated fit op2.And a b = v.Bool (truth a && truth b)
operated fit op2.Or a b = v.Bool (truth a || truth b)
operated fit op2.Xor a b = v.Bool (not (same_truth (truth a) (truth b)))
operated fit op2.Implies a b = v.Bool (not (truth a) || truth b)
operated fit op2.Iff a b = v.Bool (same_truth (truth a) (truth b))
operated fit op2.Eq a b = v.Bool (same_value a b)
operated fit op2.Ne a b = v.Bool (not (same_value a b))
operated fit op2.Lt a b = v.Bool (int_lt (number a) (number b))
operated fit op2.Le a b = v.Bool (int_le (number a) (number b))
operated fit op2.Gt a b = v.Bool (int_lt (number b) (number a))
operated fit op2.Ge a b = v.Bool (int_le (number b) (number a))
operated fit op2.Add a b = v.Int (fit (number a +ℤ number b))
operated fit op2.Sub a b = v.Int (fit (number a -ℤ number b))
operated fit op2.Mul a b = v.Int (fit (number a *ℤ number b))
operated fit op2.Div a b = v.Int (fit (int_div (number a) (number b)))
operated fit op2.Mod a b = v.Int (fit (remainder (number a) (number b)))
operated fit op2.Union a b = v.Bool false
operated fit op2.Member a b = v.Bool false
operated fit op2.Au a b = v.Bool false
operated fit op2.Eu a b = v.Bool false
