-- The linear fragment: formulas of which one lasso tells that they are false, or that they are true.
-- This project's definition.
use Rattle.std.specs.Prelude.{Bool, true, false, ◌&&◌, ◌||◌}
use Rattle.cov_logic.specs.Formula.{Formula, Atom, Not, And, Or, Implies, EX, EF, EG, EU, AX, AF, AG, AU}

-- whether the formula has no temporal operator
abbrev pub is_plain : {A : Type 0} → Formula A → Bool
is_plain (Atom a) = true
is_plain (Not f) = is_plain f
is_plain (And f g) = is_plain f && is_plain g
is_plain (Or f g) = is_plain f && is_plain g
is_plain (Implies f g) = is_plain f && is_plain g
is_plain (EX f) = false
is_plain (EF f) = false
is_plain (EG f) = false
is_plain (EU f g) = false
is_plain (AX f) = false
is_plain (AF f) = false
is_plain (AG f) = false
is_plain (AU f g) = false

-- With p for a formula without temporal operators:
--   U ::= p | U & U | p '|' U | U '|' p | p -> U | AX U | AG U | AF p | A[U U p] | !X
--   X ::= p | X '|' X | p & X | X & p | EX X | EF X | EG p | E[p U X] | !U
-- The rows below have every p on both sides (the law PlainIsLinear).
abbrev mutual
  -- whether it is linear universal, a U
  pub is_universal : {A : Type 0} → Formula A → Bool
  is_universal (Atom a) = true
  is_universal (Not f) = is_existential f
  is_universal (And f g) = is_universal f && is_universal g
  is_universal (Or f g) = (is_plain f && is_universal g) || (is_universal f && is_plain g)
  is_universal (Implies f g) = is_plain f && is_universal g
  is_universal (AX f) = is_universal f
  is_universal (AG f) = is_universal f
  is_universal (AF f) = is_plain f
  is_universal (AU f g) = is_universal f && is_plain g
  is_universal (EX f) = false
  is_universal (EF f) = false
  is_universal (EG f) = false
  is_universal (EU f g) = false

  -- whether it is linear existential, an X
  pub is_existential : {A : Type 0} → Formula A → Bool
  is_existential (Atom a) = true
  is_existential (Not f) = is_universal f
  is_existential (And f g) = (is_plain f && is_existential g) || (is_existential f && is_plain g)
  is_existential (Or f g) = is_existential f && is_existential g
  is_existential (Implies f g) = is_plain f && is_plain g
  is_existential (EX f) = is_existential f
  is_existential (EF f) = is_existential f
  is_existential (EG f) = is_plain f
  is_existential (EU f g) = is_plain f && is_existential g
  is_existential (AX f) = false
  is_existential (AF f) = false
  is_existential (AG f) = false
  is_existential (AU f g) = false
