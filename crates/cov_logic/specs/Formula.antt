-- Formulas of CTL over atoms (Clarke and Emerson 1981).

-- an atom, the Boolean operators, and the temporal ones with E for some path and A for every path
pub data Formula (A : Type 0) : Type 0 where
  Atom : A → Formula A
  Not : Formula A → Formula A
  And Or Implies : Formula A → Formula A → Formula A
  EX EF EG : Formula A → Formula A
  EU : Formula A → Formula A → Formula A
  AX AF AG : Formula A → Formula A
  AU : Formula A → Formula A → Formula A
