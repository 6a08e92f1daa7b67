-- The formula of each node.
use Rattle.std.proofs.Common.{◌≡◌}
use Rattle.cov_syntax.specs.declared.tree.Expr.{Expr}
use Rattle.cov_logic.specs.Formula.{Atom, Not, And, Or, Implies, EX, EF, EG, EU, AX, AF, AG, AU}
use Rattle.cov_ctl.specs.declared.formula.Formula.{Formula}
use Rattle.cov_ctl.specs.declared.formula.Formula.TheVariants as ctl
use Rattle.cov_ctl.specs.declared.formula.Formula.TheFolds as formulas
use Rattle.cov_ctl.specs.Formulas.{formula_of}

pub of_atom : (e : Expr) → formula_of (ctl.Atom e) ≡ Atom e
of_atom e = search formulas.the_lemmas

pub of_not : (f : Formula) → formula_of (ctl.Not f) ≡ Not (formula_of f)
of_not f = search formulas.the_lemmas

pub of_ex : (f : Formula) → formula_of (ctl.Ex f) ≡ EX (formula_of f)
of_ex f = search formulas.the_lemmas

pub of_ef : (f : Formula) → formula_of (ctl.Ef f) ≡ EF (formula_of f)
of_ef f = search formulas.the_lemmas

pub of_eg : (f : Formula) → formula_of (ctl.Eg f) ≡ EG (formula_of f)
of_eg f = search formulas.the_lemmas

pub of_ax : (f : Formula) → formula_of (ctl.Ax f) ≡ AX (formula_of f)
of_ax f = search formulas.the_lemmas

pub of_af : (f : Formula) → formula_of (ctl.Af f) ≡ AF (formula_of f)
of_af f = search formulas.the_lemmas

pub of_ag : (f : Formula) → formula_of (ctl.Ag f) ≡ AG (formula_of f)
of_ag f = search formulas.the_lemmas

pub of_and : (f g : Formula) → formula_of (ctl.And f g) ≡ And (formula_of f) (formula_of g)
of_and f g = search formulas.the_lemmas

pub of_or : (f g : Formula) → formula_of (ctl.Or f g) ≡ Or (formula_of f) (formula_of g)
of_or f g = search formulas.the_lemmas

pub of_implies : (f g : Formula) → formula_of (ctl.Implies f g) ≡ Implies (formula_of f) (formula_of g)
of_implies f g = search formulas.the_lemmas

pub of_eu : (f g : Formula) → formula_of (ctl.Eu f g) ≡ EU (formula_of f) (formula_of g)
of_eu f g = search formulas.the_lemmas

pub of_au : (f g : Formula) → formula_of (ctl.Au f g) ≡ AU (formula_of f) (formula_of g)
of_au f g = search formulas.the_lemmas
