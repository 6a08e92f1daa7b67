-- The formulas of the checker as formulas over explicit states.
use Rattle.cov_syntax.specs.declared.tree.Expr.{Expr}
use Rattle.cov_logic.specs.Formula.{Formula, Atom, Not, And, Or, Implies, EX, EF, EG, EU, AX, AF, AG, AU}
use Rattle.cov_ctl.specs.declared.formula.Formula as ctl
use Rattle.cov_ctl.specs.declared.formula.Formula.TheOpen.{Formula-F}
use Rattle.cov_ctl.specs.declared.formula.Formula.TheFolds.{fold-Formula}

-- a node, given the formulas of its operands
abbrev pub node_formula : Formula-F (Formula Expr) → Formula Expr
node_formula (Formula-F.Atom e) = Atom e
node_formula (Formula-F.Not f) = Not f
node_formula (Formula-F.And f g) = And f g
node_formula (Formula-F.Or f g) = Or f g
node_formula (Formula-F.Implies f g) = Implies f g
node_formula (Formula-F.Ex f) = EX f
node_formula (Formula-F.Ef f) = EF f
node_formula (Formula-F.Eg f) = EG f
node_formula (Formula-F.Eu f g) = EU f g
node_formula (Formula-F.Ax f) = AX f
node_formula (Formula-F.Af f) = AF f
node_formula (Formula-F.Ag f) = AG f
node_formula (Formula-F.Au f g) = AU f g

-- the formula over explicit states
abbrev pub formula_of : ctl.Formula → Formula Expr
formula_of = fold-Formula (Formula Expr) node_formula
