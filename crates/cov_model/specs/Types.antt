-- The types of the variables, and the bits that they take.
use Rattle.std.specs.Prelude.{ℕ, zero, suc, ◌+◌, ◌-◌, ◌/◌, Bool, true, false, ◌||◌, if◌then◌else◌, ◌==◌, nat_lt, List, [], ◌∷◌, length, Option, Some, None}
use Rattle.cov_syntax.specs.declared.fault.ModelFault.{ModelFault}
use Rattle.cov_syntax.specs.declared.tree.Value.{Value}
use Rattle.cov_model.specs.declared.model.Var.{Var}
use Rattle.cov_model.specs.Kinds.{member}
use Rattle.cov_model.specs.Walk.{first, fault_if, bad_type, range_too_wide}

-- a value that stands twice
abbrev pub has_twice : List Value → Bool
has_twice [] = false
has_twice (x ∷ xs) = member xs x || has_twice xs

-- no value
abbrev pub is_empty : List Value → Bool
is_empty [] = true
is_empty (x ∷ xs) = false

-- a range with the low end above the high end has no values
abbrev pub type_fault : Var → Option ModelFault
type_fault x = first (
    fault_if (is_empty x.values || has_twice x.values) bad_type x.kind_place
    ∷ fault_if (nat_lt 1024 (length x.values)) range_too_wide x.kind_place
    ∷ [])

-- how many binary digits a number has, at most so many
abbrev pub digits : ℕ → ℕ → ℕ
digits zero k = 0
digits (suc most) k = if k == 0 then 0 else 1 + digits most (k / 2)

-- the least number of bits that holds each place of a list of values
abbrev pub bits : Var → ℕ
bits x = digits (length x.values) (length x.values - 1)

-- the variable at which the bits pass 60
abbrev pub bits_fault : ℕ → List Var → Option ModelFault
bits_fault total [] = None
bits_fault total (x ∷ xs) = if nat_lt 60 (total + bits x) then Some (record { code = 21; place = x.place }) else bits_fault (total + bits x) xs
