-- A law of inverted signals.
use Rattle.std.specs.Prelude.{◌≡◌, ℕ, Bool, false, not, ◌||◌, IsTrue, slice_get, Some, None}
use Rattle.std.specs.List.{list_any}
use Rattle.cov_syntax.specs.declared.tree.Value.{Value}
use Rattle.cov_syntax.specs.declared.tree.Value.TheVariants as v
use Rattle.cov_syntax.specs.declared.tree.Expr.{Expr}
use Rattle.cov_syntax.specs.declared.tree.Node.TheOpen.{Node-F, Branch-F, Expr-F}
use Rattle.cov_syntax.specs.declared.tree.Node.TheFolds.{fold-Expr}
use Rattle.cov_model.specs.declared.model.Define.{Define}
use Rattle.cov_model.specs.declared.model.Model.{Model}
use Rattle.cov_model.specs.declared.model.Signal.{Signal}
use Rattle.cov_model.specs.declared.model.Signal.TheVariants as signal
use Rattle.cov_model.specs.Meaning.{Readings, same_signal, variable, define, value, allows}
use Rattle.cov_model.specs.States.{State, between, readings_in}
use Rattle.cov_model.specs.WellFormed.{IsWellFormed}

-- a node, given whether its parts name the signal
abbrev pub names_layer : Signal → Node-F Bool Bool Bool → Bool
names_layer q (Node-F.Var i) = same_signal q (signal.Var i)
names_layer q (Node-F.Def i) = same_signal q (signal.Def i)
names_layer q (Node-F.One op a) = a
names_layer q (Node-F.Two op a b) = a || b
names_layer q (Node-F.Set es) = list_any (λ e. e) es
names_layer q (Node-F.Case bs) = list_any (λ b. b) bs
names_layer q _ = false

-- a branch, by its guard and its body
abbrev pub names_branch : Branch-F Bool Bool Bool → Bool
names_branch b = b.guard || b.body

-- an expression, by its node
abbrev pub names_expr : Expr-F Bool Bool Bool → Bool
names_expr e = e.node

-- whether the variable or the DEFINE stands in the expression
abbrev pub names : Signal → Expr → Bool
names q = fold-Expr Bool Bool Bool (names_layer q) names_branch names_expr

-- the expression reads the signal, itself or through DEFINEs
pub data ReadsSignal (m : Model) (q : Signal) : Expr → Type 0 where
  itself : (e : Expr) → IsTrue (names q e) → ReadsSignal m q e
  through : (e : Expr) (i : ℕ) (d : Define) → IsTrue (names (signal.Def i) e) → slice_get m.defines i ≡ Some d →
      ReadsSignal m q d.body → ReadsSignal m q e

-- what is read of a signal
abbrev pub reading : Readings → Signal → Value
reading r (signal.Var i) = variable r i
reading r (signal.Def i) = define r i

-- where a signal is inverted in the present state: if it reads TRUE or FALSE without that, it reads the other one; an
-- expression that reads it neither itself nor through DEFINEs has the same value and the same choices as without that
pub record InvertingIsLocal : Type 0 where
  pub negated : (m : Model) → IsWellFormed m → (q : Signal) (s : State) (b : Bool) →
      reading (readings_in m s None) q ≡ v.Bool b → reading (readings_in m s (Some q)) q ≡ v.Bool (not b)
  pub value_stays : (m : Model) (q : Signal) (e : Expr) → ¬ ReadsSignal m q e → (s t : State) →
      value e (between m s t (Some q)) ≡ value e (between m s t None)
  pub choices_stay : (m : Model) (q : Signal) (e : Expr) → ¬ ReadsSignal m q e → (s t : State) (x : Value) →
      allows e (between m s t (Some q)) x ≡ allows e (between m s t None) x
