use Rattle.std.proofs.Common.{sym, ap, ◌∙◌}
use Rattle.cov_show.specs.Printing.{Printed}
use Rattle.cov_show.specs.Formulas.{formula_printed}
use Rattle.cov_show.proofs.FormulaLemmas.{of_atom}
use Rattle.cov_show.proofs.formula.level.Goals as goal

pub returns-in-Atom : goal.returns-in-Atom
returns-in-Atom c = λ labels.
    c.level.ensures labels ∙ ap (λ (p : Printed). p.level) (sym (ap (formula_printed labels) c.in-Atom.is ∙ of_atom labels c.in-Atom.e))
