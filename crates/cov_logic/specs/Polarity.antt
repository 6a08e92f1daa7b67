-- The polarity of an occurrence (Kupferman and Vardi 1999).
use Rattle.std.specs.Prelude.{ℕ, ◌-◌, ◌==◌, Bool, true, not, if◌then◌else◌}
use Rattle.cov_logic.specs.Formula.{Formula, Atom, Not, And, Or, Implies, EX, EF, EG, EU, AX, AF, AG, AU}
use Rattle.cov_logic.specs.Occurrence.{size, in_left}

-- whether occurrence n is positive: the formula itself is; a negation and the left side of an implication turn it,
-- and nothing else does
abbrev pub positive : {A : Type 0} → Formula A → ℕ → Bool
positive (Atom a) n = true
positive (Not f) n = if n == 1 then true else not (positive f (n - 1))
positive (And f g) n =
    if n == 1 then true
    else if in_left f n then positive f (n - 1)
    else positive g (n - 1 - size f)
positive (Or f g) n =
    if n == 1 then true
    else if in_left f n then positive f (n - 1)
    else positive g (n - 1 - size f)
positive (Implies f g) n =
    if n == 1 then true
    else if in_left f n then not (positive f (n - 1))
    else positive g (n - 1 - size f)
positive (EX f) n = if n == 1 then true else positive f (n - 1)
positive (EF f) n = if n == 1 then true else positive f (n - 1)
positive (EG f) n = if n == 1 then true else positive f (n - 1)
positive (EU f g) n =
    if n == 1 then true
    else if in_left f n then positive f (n - 1)
    else positive g (n - 1 - size f)
positive (AX f) n = if n == 1 then true else positive f (n - 1)
positive (AF f) n = if n == 1 then true else positive f (n - 1)
positive (AG f) n = if n == 1 then true else positive f (n - 1)
positive (AU f g) n =
    if n == 1 then true
    else if in_left f n then positive f (n - 1)
    else positive g (n - 1 - size f)
