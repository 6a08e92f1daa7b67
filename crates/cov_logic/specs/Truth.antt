-- Truth of a formula at a state (Clarke and Emerson 1981; with fairness Clarke, Emerson and Sistla 1986).
use Rattle.std.specs.Prelude.{Bool, IsTrue, ◌⊎◌}
use Rattle.cov_logic.specs.Structure.{Structure}
use Rattle.cov_logic.specs.Paths.{Next, Eventually, Always, Until, SomeLasso, EveryLasso}
use Rattle.cov_logic.specs.Formula.{Formula, Atom, Not, And, Or, Implies, EX, EF, EG, EU, AX, AF, AG, AU}

-- the formula is true at the state; the labelling says which atoms each state has
abbrev pub Sat : {S A : Type 0} → Structure S → (S → A → Bool) → Formula A → S → Type 0
Sat m label (Atom a) s = IsTrue (label s a)
Sat m label (Not f) s = Sat m label f s → ⊥
Sat m label (And f g) s = Sat m label f s × Sat m label g s
Sat m label (Or f g) s = Sat m label f s ⊎ Sat m label g s
Sat m label (Implies f g) s = Sat m label f s → Sat m label g s
Sat m label (EX f) s = SomeLasso m s (Next (Sat m label f))
Sat m label (EF f) s = SomeLasso m s (Eventually (Sat m label f))
Sat m label (EG f) s = SomeLasso m s (Always (Sat m label f))
Sat m label (EU f g) s = SomeLasso m s (Until (Sat m label f) (Sat m label g))
Sat m label (AX f) s = EveryLasso m s (Next (Sat m label f))
Sat m label (AF f) s = EveryLasso m s (Eventually (Sat m label f))
Sat m label (AG f) s = EveryLasso m s (Always (Sat m label f))
Sat m label (AU f g) s = EveryLasso m s (Until (Sat m label f) (Sat m label g))
