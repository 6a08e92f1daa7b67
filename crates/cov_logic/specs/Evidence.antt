-- What one lasso proves about a formula, read off the labels of its states alone. This project's definition.
use Rattle.std.specs.Prelude.{ℕ, ◌<◌, ◌≤◌, Bool, IsTrue, IsFalse, ◌⊎◌}
use Rattle.cov_logic.specs.Lasso.{Lasso}
use Rattle.cov_logic.specs.Suffix.{suffix, at}
use Rattle.cov_logic.specs.Formula.{Formula, Atom, Not, And, Or, Implies, EX, EF, EG, EU, AX, AF, AG, AU}

-- One row for each operator. Of a formula without temporal operators a lasso refutes exactly what is false at its
-- first state, and shows exactly what is true there (the law PlainIsTold).
abbrev mutual
  -- the lasso refutes the formula at its first state; no lasso alone refutes that some lasso exists
  pub Refutes : {S A : Type 0} → (S → A → Bool) → Formula A → Lasso S → Type 0
  Refutes label (Atom a) l = IsFalse (label (at l 0) a)
  Refutes label (Not f) l = Shows label f l
  Refutes label (And f g) l = Refutes label f l ⊎ Refutes label g l
  Refutes label (Or f g) l = Refutes label f l × Refutes label g l
  Refutes label (Implies f g) l = Shows label f l × Refutes label g l
  Refutes label (AX f) l = Refutes label f (suffix 1 l)
  Refutes label (AF f) l = (i : ℕ) → Refutes label f (suffix i l)
  Refutes label (AG f) l = (i : ℕ) × Refutes label f (suffix i l)
  Refutes label (AU f g) l =
      ((i : ℕ) → Refutes label g (suffix i l)) ⊎
      ((j : ℕ) × Refutes label f (suffix j l) × ((i : ℕ) → i ≤ j → Refutes label g (suffix i l)))
  Refutes label (EX f) l = ⊥
  Refutes label (EF f) l = ⊥
  Refutes label (EG f) l = ⊥
  Refutes label (EU f g) l = ⊥

  -- the lasso shows the formula at its first state; no lasso alone shows a thing of every lasso
  pub Shows : {S A : Type 0} → (S → A → Bool) → Formula A → Lasso S → Type 0
  Shows label (Atom a) l = IsTrue (label (at l 0) a)
  Shows label (Not f) l = Refutes label f l
  Shows label (And f g) l = Shows label f l × Shows label g l
  Shows label (Or f g) l = Shows label f l ⊎ Shows label g l
  Shows label (Implies f g) l = Refutes label f l ⊎ Shows label g l
  Shows label (EX f) l = Shows label f (suffix 1 l)
  Shows label (EF f) l = (i : ℕ) × Shows label f (suffix i l)
  Shows label (EG f) l = (i : ℕ) → Shows label f (suffix i l)
  Shows label (EU f g) l = (j : ℕ) × Shows label g (suffix j l) × ((i : ℕ) → i < j → Shows label f (suffix i l))
  Shows label (AX f) l = ⊥
  Shows label (AF f) l = ⊥
  Shows label (AG f) l = ⊥
  Shows label (AU f g) l = ⊥
