-- A law of the formula that an expression is lowered to.
use Rattle.std.specs.Prelude.{◌≡◌, Bool, IsTrue, IsFalse, ◌⊎◌, ◌↔◌, Option}
use Rattle.cov_syntax.specs.declared.tree.Op2.TheVariants as op2
use Rattle.cov_syntax.specs.declared.tree.Expr.{Expr}
use Rattle.cov_syntax.specs.declared.tree.Node.{out-Node}
use Rattle.cov_syntax.specs.declared.tree.Node.TheOpen.{Node-F}
use Rattle.cov_logic.specs.Truth.{Sat}
use Rattle.cov_model.specs.declared.model.Model.{Model}
use Rattle.cov_model.specs.declared.model.Signal.{Signal}
use Rattle.cov_model.specs.Paths.{structure, mutant_labelling}
use Rattle.cov_model.specs.States.{State, holds}
use Rattle.cov_ctl.specs.Formulas.{formula_of}
use Rattle.cov_ctl.specs.Lowered.{lowered}
use Rattle.cov_ctl.specs.Temporal.{is_temporal}

-- at the state the labelling has exactly the expressions that hold there, a signal being inverted or none
pub record ReadsAt (m : Model) (label : State → Expr → Bool) (s : State) (flip : Option Signal) : Type 0 where
  pub by : (e : Expr) → label s e ≡ holds m e s flip

-- the formula that the expression is lowered to is true at the state
abbrev pub IsTrueIn : Model → (State → Expr → Bool) → Expr → State → Type 0
IsTrueIn m label e s = Sat (structure m) label (formula_of (lowered e)) s

-- An expression without CTL operators is true at a state exactly where it holds there. With CTL operators or without,
-- `<->` is true exactly where both sides are or neither is, and `xor` where one of them alone is. The labelling of a
-- mutant is one of those that are spoken of.
pub record LoweredIsRight : Type 0 where
  pub plain : (m : Model) (label : State → Expr → Bool) (s : State) (flip : Option Signal) → ReadsAt m label s flip →
      (e : Expr) → IsFalse (is_temporal e) → IsTrueIn m label e s ↔ IsTrue (holds m e s flip)
  pub both_or_neither : (m : Model) (label : State → Expr → Bool) (s : State) (flip : Option Signal) →
      ReadsAt m label s flip → (e a b : Expr) → out-Node e.node ≡ Node-F.Two op2.Iff a b →
      IsTrueIn m label e s
      ↔ ((IsTrueIn m label a s × IsTrueIn m label b s) ⊎ ((¬ IsTrueIn m label a s) × (¬ IsTrueIn m label b s)))
  pub one_alone : (m : Model) (label : State → Expr → Bool) (s : State) (flip : Option Signal) →
      ReadsAt m label s flip → (e a b : Expr) → out-Node e.node ≡ Node-F.Two op2.Xor a b →
      IsTrueIn m label e s
      ↔ ((IsTrueIn m label a s × (¬ IsTrueIn m label b s)) ⊎ ((¬ IsTrueIn m label a s) × IsTrueIn m label b s))
  pub mutants : (m : Model) (q : Signal) (w s : State) →
      (flip : Option Signal) × ReadsAt m (mutant_labelling m q w) s flip
