-- Printed formulas.
use Rattle.std.proofs.Common.{◌≡◌}
use Rattle.cov_syntax.specs.declared.tree.Expr.{Expr}
use Rattle.cov_ctl.specs.declared.formula.Formula.TheVariants as f
use Rattle.cov_ctl.specs.declared.formula.Formula.TheFolds.{the_lemmas}
use Rattle.cov_show.specs.Printing.{Labels, printed}
use Rattle.cov_show.specs.Formulas.{formula_printed}

pub of_atom : (labels : Labels) (e : Expr) → formula_printed labels (f.Atom e) ≡ printed labels e
of_atom labels e = search the_lemmas
