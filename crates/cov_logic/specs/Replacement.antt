-- Another formula in the place of one occurrence (Kupferman and Vardi 1999).
use Rattle.std.specs.Prelude.{ℕ, ◌-◌, ◌==◌, if◌then◌else◌}
use Rattle.cov_logic.specs.Formula.{Formula, Atom, Not, And, Or, Implies, EX, EF, EG, EU, AX, AF, AG, AU}
use Rattle.cov_logic.specs.Occurrence.{size, in_left}

-- the formula with x in the place of occurrence n
abbrev pub replace : {A : Type 0} → Formula A → ℕ → Formula A → Formula A
replace (Atom a) n x = if n == 1 then x else Atom a
replace (Not f) n x = if n == 1 then x else Not (replace f (n - 1) x)
replace (And f g) n x =
    if n == 1 then x
    else if in_left f n then And (replace f (n - 1) x) g
    else And f (replace g (n - 1 - size f) x)
replace (Or f g) n x =
    if n == 1 then x
    else if in_left f n then Or (replace f (n - 1) x) g
    else Or f (replace g (n - 1 - size f) x)
replace (Implies f g) n x =
    if n == 1 then x
    else if in_left f n then Implies (replace f (n - 1) x) g
    else Implies f (replace g (n - 1 - size f) x)
replace (EX f) n x = if n == 1 then x else EX (replace f (n - 1) x)
replace (EF f) n x = if n == 1 then x else EF (replace f (n - 1) x)
replace (EG f) n x = if n == 1 then x else EG (replace f (n - 1) x)
replace (EU f g) n x =
    if n == 1 then x
    else if in_left f n then EU (replace f (n - 1) x) g
    else EU f (replace g (n - 1 - size f) x)
replace (AX f) n x = if n == 1 then x else AX (replace f (n - 1) x)
replace (AF f) n x = if n == 1 then x else AF (replace f (n - 1) x)
replace (AG f) n x = if n == 1 then x else AG (replace f (n - 1) x)
replace (AU f g) n x =
    if n == 1 then x
    else if in_left f n then AU (replace f (n - 1) x) g
    else AU f (replace g (n - 1 - size f) x)
