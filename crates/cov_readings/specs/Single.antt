-- Expressions that have one value.
use Rattle.std.specs.Prelude.{◌≡◌, IsTrue, Option}
use Rattle.cov_syntax.specs.declared.tree.Expr.{Expr}
use Rattle.cov_syntax.specs.declared.tree.Value.{Value}
use Rattle.cov_model.specs.declared.model.Model.{Model}
use Rattle.cov_model.specs.declared.model.Signal.{Signal}
use Rattle.cov_model.specs.Meaning.{value, allows}
use Rattle.cov_model.specs.States.{State, is_typed, between}
use Rattle.cov_model.specs.Values.{same_value}

-- in typed states the value of the expression is its one choice, under every flip
abbrev pub HasOneChoice : Model → Expr → Type 0
HasOneChoice m e = (s t : State) (flip : Option Signal) → IsTrue (is_typed m s) → IsTrue (is_typed m t) → (x : Value)
    → allows e (between m s t flip) x ≡ same_value (value e (between m s t flip)) x
