-- The formula that fails where an occurrence matters.
use Rattle.std.specs.Prelude.{ℕ, not}
use Rattle.cov_syntax.specs.declared.tree.Expr.{Expr}
use Rattle.cov_logic.specs.Formula.{Formula, Atom}
use Rattle.cov_logic.specs.Polarity.{positive}
use Rattle.cov_logic.specs.Replacement.{replace}
use Rattle.cov_ctl.specs.Constants.{constant_expr}

-- the formula with the constant in the place of occurrence n that makes it hardest to pass: FALSE where the occurrence is positive,
-- TRUE where it is negative (Kupferman and Vardi 1999)
abbrev pub hardest : Formula Expr → ℕ → Formula Expr
hardest f n = replace f n (Atom (constant_expr (not (positive f n))))
