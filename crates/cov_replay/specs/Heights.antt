-- How high a formula is.
use Rattle.std.specs.Prelude.{ℕ, ◌+◌, max}
use Rattle.cov_logic.specs.Formula.{Formula, Atom, Not, And, Or, Implies, EX, EF, EG, EU, AX, AF, AG, AU}

-- the greatest number of nodes from the top to an atom, both among them
abbrev pub height : {A : Type 0} → Formula A → ℕ
height (Atom a) = 1
height (Not f) = 1 + height f
height (And f g) = 1 + max (height f) (height g)
height (Or f g) = 1 + max (height f) (height g)
height (Implies f g) = 1 + max (height f) (height g)
height (EX f) = 1 + height f
height (EF f) = 1 + height f
height (EG f) = 1 + height f
height (EU f g) = 1 + max (height f) (height g)
height (AX f) = 1 + height f
height (AF f) = 1 + height f
height (AG f) = 1 + height f
height (AU f g) = 1 + max (height f) (height g)
