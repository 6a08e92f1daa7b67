-- The formulas over a model, which need not stand in it.
use Rattle.std.specs.Prelude.{◌≡◌, true, IsTrue, IsFalse, Some, None}
use Rattle.cov_syntax.specs.declared.tree.Expr.{Expr}
use Rattle.cov_logic.specs.Formula.{Formula}
use Rattle.cov_model.specs.declared.model.Model.{Model}
use Rattle.cov_model.specs.Kinds.{is_boolean}
use Rattle.cov_model.specs.Walk.{truth, own}
use Rattle.cov_model.specs.Settled.{kinds_of, whole_fault, timed, settled}
use Rattle.cov_model.specs.WellFormed as well_formed
use Rattle.cov_model.specs.Written.{written}
use Rattle.cov_formulas.specs.Formulas.{AllAtoms}

-- a Boolean expression without CTL operators, without fault as the body of a SPEC of the model, in which what is cited is there, no set or
-- case is empty, and no 0 or 1 stands in a Boolean place
pub record IsAtomOver (m : Model) (e : Expr) : Type 0 where
  pub boolean : IsTrue (is_boolean (own (kinds_of m) e))
  pub propositional : IsFalse (written e).0
  pub no_fault : whole_fault (kinds_of m) timed (Some truth) e ≡ None
  pub cites : IsTrue (well_formed.cites m e)
  pub settles : settled (kinds_of m) true e ≡ e

-- each atom of the formula is one over the model
abbrev pub IsFormulaOver : Model → Formula Expr → Type 0
IsFormulaOver m x = AllAtoms (IsAtomOver m) x
