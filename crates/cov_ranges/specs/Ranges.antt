-- The values that the expressions of a model may have.
use Rattle.std.specs.Prelude.{Bool, true, false, IsTrue, IsFalse, ◌⊎◌, List, Option}
use Rattle.std.specs.List.{list_any}
use Rattle.cov_syntax.specs.declared.tree.Value.{Value}
use Rattle.cov_syntax.specs.declared.tree.Op2.TheVariants as op2
use Rattle.cov_syntax.specs.declared.tree.Expr.{Expr}
use Rattle.cov_syntax.specs.declared.tree.Node.TheOpen.{Node-F}
use Rattle.cov_syntax.specs.declared.tree.Node.TheFolds.{fold-Expr}
use Rattle.cov_model.specs.declared.model.Signal.{Signal}
use Rattle.cov_model.specs.declared.model.Model.{Model}
use Rattle.cov_model.specs.Meaning.{value, allows}
use Rattle.cov_model.specs.States.{State, is_typed, between}
use Rattle.cov_model.specs.Kinds.{values_of, member}
use Rattle.cov_model.specs.Walk.{own}
use Rattle.cov_model.specs.Settled.{kinds_of}
use Rattle.cov_model.specs.Atoms.{is_constant, StandsInModel}

-- an expression of the model or a part of one, or the literal TRUE or FALSE
abbrev pub IsExpressionOf : Model → Expr → Type 0
IsExpressionOf m e = IsTrue (is_constant e) ⊎ StandsInModel m e

-- a set, a range or a `union`, or a case with such a body
abbrev pub is_set_layer : Node-F Bool Bool Bool → Bool
is_set_layer (Node-F.Set es) = true
is_set_layer (Node-F.Range low high) = true
is_set_layer (Node-F.Two op2.Union a b) = true
is_set_layer (Node-F.Case bs) = list_any (λ b. b) bs
is_set_layer _ = false

-- an expression that has choices in place of a value
abbrev pub is_set : Expr → Bool
is_set = fold-Expr Bool Bool Bool is_set_layer (λ b. b.body) (λ e. e.node)

-- the values of the own kind of an expression
abbrev pub range_of : Model → Expr → List Value
range_of m e = values_of (own (kinds_of m) e)

-- the list has each value and each choice of the expression in a typed state, the next state being any typed state, under every flip
pub record ListsAll (m : Model) (e : Expr) (xs : List Value) : Type 0 where
  pub values : (s t : State) (flip : Option Signal) → IsTrue (is_typed m s) → IsTrue (is_typed m t) → IsFalse (is_set e) → IsTrue (member xs (value e (between m s t flip)))
  pub choices : (s t : State) (flip : Option Signal) → IsTrue (is_typed m s) → IsTrue (is_typed m t) → (x : Value) → IsTrue (allows e (between m s t flip) x) → IsTrue (member xs x)
