-- What a walk over a formula in preorder tells of an occurrence.
use Rattle.std.specs.Prelude.{◌≡◌, ℕ, ◌+◌, ◌<◌, Bool, true, false, not, Some}
use Rattle.std.specs.declared.ops.ControlFlow.{ControlFlow}
use Rattle.std.specs.declared.ops.ControlFlow.TheVariants.{Continue, Break}
use Rattle.cov_syntax.specs.declared.tree.Expr.{Expr}
use Rattle.cov_logic.specs.Formula.{Formula}
use Rattle.cov_logic.specs.Occurrence.{size, occurrence}
use Rattle.cov_logic.specs.Polarity.{positive}
use Rattle.cov_ctl.specs.declared.occurrences.Node.{Node}
use Rattle.cov_ctl.specs.Formulas.{formula_of}

-- the polarity of a node of a formula that is itself positive or not
abbrev pub polarity : Bool → Bool → Bool
polarity true inner = inner
polarity false inner = not inner

-- the node at occurrence n of a formula that is itself positive or not, or by how much n is above the size
abbrev pub Tells : Formula Expr → ℕ → Bool → ControlFlow Node ℕ → Type 0
Tells f n whole (Break x) = (occurrence f n ≡ Some (formula_of x.formula.now)) × (x.positive ≡ polarity whole (positive f n))
Tells f n whole (Continue left) = (0 < left) × (left + size f ≡ n)
