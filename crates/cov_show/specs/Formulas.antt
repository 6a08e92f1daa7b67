-- How formulas are printed: as expressions with the same operators.
use Rattle.cov_syntax.specs.declared.tree.Op1.TheVariants as op1
use Rattle.cov_syntax.specs.declared.tree.Op2.TheVariants as op2
use Rattle.cov_syntax.specs.Tokens.{Text}
use Rattle.cov_model.specs.declared.model.Model.{Model}
use Rattle.cov_ctl.specs.declared.formula.Formula.{Formula}
use Rattle.cov_ctl.specs.declared.formula.Formula.TheOpen.{Formula-F}
use Rattle.cov_ctl.specs.declared.formula.Formula.TheFolds.{fold-Formula}
use Rattle.cov_show.specs.Printing.{Labels, model_labels, Printed, placed, printed, prefix_printed, infix_printed}

-- a node, given its printed operands
abbrev pub of_formula : Labels → Formula-F Printed → Printed
of_formula labels (Formula-F.Atom e) = printed labels e
of_formula labels (Formula-F.Not f) = prefix_printed op1.Not f
of_formula labels (Formula-F.And f g) = infix_printed op2.And f g
of_formula labels (Formula-F.Or f g) = infix_printed op2.Or f g
of_formula labels (Formula-F.Implies f g) = infix_printed op2.Implies f g
of_formula labels (Formula-F.Ex f) = prefix_printed op1.Ex f
of_formula labels (Formula-F.Ef f) = prefix_printed op1.Ef f
of_formula labels (Formula-F.Eg f) = prefix_printed op1.Eg f
of_formula labels (Formula-F.Eu f g) = infix_printed op2.Eu f g
of_formula labels (Formula-F.Ax f) = prefix_printed op1.Ax f
of_formula labels (Formula-F.Af f) = prefix_printed op1.Af f
of_formula labels (Formula-F.Ag f) = prefix_printed op1.Ag f
of_formula labels (Formula-F.Au f g) = infix_printed op2.Au f g

-- a formula as it is printed
abbrev pub formula_printed : Labels → Formula → Printed
formula_printed labels = fold-Formula Printed (of_formula labels)

-- the text of a formula of a model
abbrev pub formula_text : Model → Formula → Text
formula_text m f = placed 1 (formula_printed (model_labels m) f)
