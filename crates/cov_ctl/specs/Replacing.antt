-- A formula made again, with another formula in the place of one occurrence.
use Rattle.std.specs.Prelude.{◌≡◌, ℕ, ◌-◌}
use Rattle.cov_syntax.specs.declared.tree.Expr.{Expr}
use Rattle.cov_logic.specs.Formula.{Formula, Not, And, Or, Implies, EX, EF, EG, EU, AX, AF, AG, AU}
use Rattle.cov_logic.specs.Occurrence.{size}
use Rattle.cov_logic.specs.Replacement.{replace}
use Rattle.cov_ctl.specs.declared.replacing.Replaced.{Replaced}
use Rattle.cov_ctl.specs.Formulas.{formula_of}

-- the operator at the top over another operand; any other formula has none, and that operand stands alone
abbrev pub over : {A : Type 0} → Formula A → Formula A → Formula A
over (Not f) x = Not x
over (EX f) x = EX x
over (EF f) x = EF x
over (EG f) x = EG x
over (AX f) x = AX x
over (AF f) x = AF x
over (AG f) x = AG x
over _ x = x

-- the operator at the top over two other operands; where it has not two, the first stands alone
abbrev pub over_both : {A : Type 0} → Formula A → Formula A → Formula A → Formula A
over_both (And f g) x y = And x y
over_both (Or f g) x y = Or x y
over_both (Implies f g) x y = Implies x y
over_both (EU f g) x y = EU x y
over_both (AU f g) x y = AU x y
over_both _ x y = x

-- x stands in the place of occurrence n, where n is one, and what is left is by how much n is above the size
abbrev pub IsReplaced : Formula Expr → ℕ → Formula Expr → Replaced → Type 0
IsReplaced f n x r = (formula_of r.formula ≡ replace f n x) × (r.left ≡ n - size f)
