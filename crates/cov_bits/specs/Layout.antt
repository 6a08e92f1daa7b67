-- Bits of variables, codes of states, and rows of bits. A variable is given by the number of its values.
use Rattle.std.specs.Prelude.{◌≡◌, ◌≢◌, ℕ, zero, suc, ◌+◌, ◌-◌, ◌*◌, ◌/◌, ◌%◌, ◌^◌, ◌<◌, ◌≤◌, Bool, true, false, ◌&&◌, ◌==◌, if◌then◌else◌, nat_lt, IsTrue, List, [], ◌∷◌, map, take, drop, length, get_or, Option, Some, None}
use Rattle.cov_model.specs.declared.model.Var.{Var}
use Rattle.cov_model.specs.Types.{digits}

-- the numbers of values of the variables
abbrev pub sizes : List Var → List ℕ
sizes vars = map (λ (x : Var). length x.values) vars

-- a variable has at least one value and at most 1,024
abbrev pub IsSize : ℕ → Type 0
IsSize n = (0 < n) × (n ≤ 1024)

-- each variable has
abbrev pub AreSizes : List ℕ → Type 0
AreSizes [] = Unit {0}
AreSizes (n ∷ ns) = IsSize n × AreSizes ns

-- the bits of a variable with n values: the binary digits of its last place, none where it has one value
abbrev pub width : ℕ → ℕ
width n = digits n (n - 1)

-- the bits of all variables
abbrev pub bits : List ℕ → ℕ
bits [] = 0
bits (n ∷ ns) = width n + bits ns

-- the first bit of a variable: those of the variables before it come first
abbrev pub first : List ℕ → ℕ → ℕ
first ns var = bits (take var ns)

-- one place for each variable, each below the number of its values
abbrev pub are_places : List ℕ → List ℕ → Bool
are_places [] [] = true
are_places (n ∷ ns) (i ∷ s) = nat_lt i n && are_places ns s
are_places _ _ = false

-- the code of a state: the bits of its places in turn, those of the first variable with the greatest weight
abbrev pub code : List ℕ → List ℕ → ℕ
code (n ∷ ns) (i ∷ s) = i * 2 ^ bits ns + code ns s
code _ _ = 0

-- the typed state with this code, or none where no typed state has it
abbrev pub IsDecoded : List ℕ → ℕ → Option (List ℕ) → Type 0
IsDecoded ns c (Some s) = IsTrue (are_places ns s) × (code ns s ≡ c)
IsDecoded ns c None = (s : List ℕ) → IsTrue (are_places ns s) → code ns s ≢ c

-- the row of n bits of a number: bit b is its binary digit of weight 2 ^ (n - 1 - b)
abbrev pub row : ℕ → ℕ → List Bool
row zero c = []
row (suc n) c = (c / 2 ^ n % 2 == 1) ∷ row n c

-- the number that a row of bits is, its first bit with the greatest weight
abbrev pub number : List Bool → ℕ
number [] = 0
number (b ∷ bs) = (if b then 2 ^ length bs else 0) + number bs

-- the bits of a variable in a row
abbrev pub part : List ℕ → ℕ → List Bool → List Bool
part ns var r = take (width (get_or ns var 0)) (drop (first ns var) r)

-- the places that a row names, one for each variable
abbrev pub places : List ℕ → List Bool → List ℕ
places [] r = []
places (n ∷ ns) r = number (take (width n) r) ∷ places ns (drop (width n) r)
