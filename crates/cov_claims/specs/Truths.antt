-- The truth of a formula at a state of a model, and its verdict, where a signal may be inverted at one state.
use Rattle.std.specs.Prelude.{Bool, Option, Some, None}
use Rattle.cov_syntax.specs.declared.tree.Expr.{Expr}
use Rattle.cov_logic.specs.Formula.{Formula}
use Rattle.cov_logic.specs.Truth.{Sat}
use Rattle.cov_logic.specs.Verdict.{Passes}
use Rattle.cov_ctl.specs.declared.formula.Formula as ctl
use Rattle.cov_ctl.specs.Formulas.{formula_of}
use Rattle.cov_model.specs.declared.model.Model.{Model}
use Rattle.cov_model.specs.declared.model.Signal.{Signal}
use Rattle.cov_model.specs.Paths.{structure, labelling, mutant_labelling}
use Rattle.cov_model.specs.States.{State}

-- the labelling of the model, with the signal, if there is one, inverted at one state alone
abbrev pub labelling_at : Model → Option Signal → State → State → Expr → Bool
labelling_at m None w = labelling m None
labelling_at m (Some q) w = mutant_labelling m q w

-- a formula is true at a state of the model, the signal being inverted at the state w alone
abbrev pub IsTrueAt : Model → Option Signal → State → Formula Expr → State → Type 0
IsTrueAt m signal w f s = Sat (structure m) (labelling_at m signal w) f s

-- each initial state that starts a fair lasso has the formula, the signal being inverted at the state w alone
abbrev pub PassesIn : Model → Option Signal → State → Formula Expr → Type 0
PassesIn m signal w f = Passes (structure m) (labelling_at m signal w) f

-- each initial state that starts a fair lasso has the formula, no signal being inverted
abbrev pub IsPassing : Model → ctl.Formula → Type 0
IsPassing m f = Passes (structure m) (labelling m None) (formula_of f)
