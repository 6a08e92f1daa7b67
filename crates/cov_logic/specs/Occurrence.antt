-- The occurrences of a formula: its nodes, numbered from 1 in preorder, left before right.
use Rattle.std.specs.Prelude.{ℕ, ◌+◌, ◌-◌, ◌==◌, ◌<◌, ◌≤◌, nat_le, Bool, Option, Some, None, if◌then◌else◌}
use Rattle.cov_logic.specs.Formula.{Formula, Atom, Not, And, Or, Implies, EX, EF, EG, EU, AX, AF, AG, AU}

-- how many nodes it has
abbrev pub size : {A : Type 0} → Formula A → ℕ
size (Atom a) = 1
size (Not f) = 1 + size f
size (And f g) = 1 + size f + size g
size (Or f g) = 1 + size f + size g
size (Implies f g) = 1 + size f + size g
size (EX f) = 1 + size f
size (EF f) = 1 + size f
size (EG f) = 1 + size f
size (EU f g) = 1 + size f + size g
size (AX f) = 1 + size f
size (AF f) = 1 + size f
size (AG f) = 1 + size f
size (AU f g) = 1 + size f + size g

-- it has a node of this number
abbrev pub IsOccurrence : {A : Type 0} → Formula A → ℕ → Type 0
IsOccurrence f n = (0 < n) × (n ≤ size f)

-- whether occurrence n, if it is below a node with these operands, is in the left one
abbrev pub in_left : {A : Type 0} → Formula A → ℕ → Bool
in_left f n = nat_le n (1 + size f)

-- the formula at occurrence n
abbrev pub occurrence : {A : Type 0} → Formula A → ℕ → Option (Formula A)
occurrence (Atom a) n = if n == 1 then Some (Atom a) else None
occurrence (Not f) n = if n == 1 then Some (Not f) else occurrence f (n - 1)
occurrence (And f g) n =
    if n == 1 then Some (And f g)
    else if in_left f n then occurrence f (n - 1)
    else occurrence g (n - 1 - size f)
occurrence (Or f g) n =
    if n == 1 then Some (Or f g)
    else if in_left f n then occurrence f (n - 1)
    else occurrence g (n - 1 - size f)
occurrence (Implies f g) n =
    if n == 1 then Some (Implies f g)
    else if in_left f n then occurrence f (n - 1)
    else occurrence g (n - 1 - size f)
occurrence (EX f) n = if n == 1 then Some (EX f) else occurrence f (n - 1)
occurrence (EF f) n = if n == 1 then Some (EF f) else occurrence f (n - 1)
occurrence (EG f) n = if n == 1 then Some (EG f) else occurrence f (n - 1)
occurrence (EU f g) n =
    if n == 1 then Some (EU f g)
    else if in_left f n then occurrence f (n - 1)
    else occurrence g (n - 1 - size f)
occurrence (AX f) n = if n == 1 then Some (AX f) else occurrence f (n - 1)
occurrence (AF f) n = if n == 1 then Some (AF f) else occurrence f (n - 1)
occurrence (AG f) n = if n == 1 then Some (AG f) else occurrence f (n - 1)
occurrence (AU f g) n =
    if n == 1 then Some (AU f g)
    else if in_left f n then occurrence f (n - 1)
    else occurrence g (n - 1 - size f)
