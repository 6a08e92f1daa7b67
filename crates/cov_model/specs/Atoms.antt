-- The expressions that may be read as atoms of a formula of a model.
use Rattle.std.specs.Prelude.{◌≡◌, ℕ, Bool, true, false, ◌⊎◌, IsTrue, IsFalse, List, ◌++◌, slice_get, Option, Some, None, Contains, map}
use Rattle.cov_syntax.specs.declared.tree.Value.{Value}
use Rattle.cov_syntax.specs.declared.tree.Value.TheVariants as v
use Rattle.cov_syntax.specs.declared.tree.Op1.{Op1}
use Rattle.cov_syntax.specs.declared.tree.Op2.{Op2}
use Rattle.cov_syntax.specs.declared.tree.Expr.{Expr}
use Rattle.cov_syntax.specs.declared.tree.Branch.{Branch}
use Rattle.cov_syntax.specs.declared.tree.Node.{Node, out-Node}
use Rattle.cov_syntax.specs.declared.tree.Node.TheOpen.{Node-F}
use Rattle.cov_model.specs.declared.model.Define.{Define}
use Rattle.cov_model.specs.declared.model.Assign.{Assign}
use Rattle.cov_model.specs.declared.model.Model.{Model}
use Rattle.cov_model.specs.Kinds.{is_boolean}
use Rattle.cov_model.specs.Walk.{truth, own}
use Rattle.cov_model.specs.Settled.{kinds_of, whole_fault, timed}
use Rattle.cov_model.specs.Written.{written}

-- the expression stands in another, whole or as a part
pub data StandsIn (x : Expr) : Expr → Type 0 where
  whole : StandsIn x x
  operand : (e a : Expr) (op : Op1) → out-Node e.node ≡ Node-F.One op a → StandsIn x a → StandsIn x e
  left : (e a b : Expr) (op : Op2) → out-Node e.node ≡ Node-F.Two op a b → StandsIn x a → StandsIn x e
  right : (e a b : Expr) (op : Op2) → out-Node e.node ≡ Node-F.Two op a b → StandsIn x b → StandsIn x e
  member : (e a : Expr) (es : List Expr) (i : ℕ) → out-Node e.node ≡ Node-F.Set es → slice_get es i ≡ Some a → StandsIn x a → StandsIn x e
  guard : (e : Expr) (b : Branch) (bs : List Branch) (i : ℕ) → out-Node e.node ≡ Node-F.Case bs → slice_get bs i ≡ Some b → StandsIn x b.guard → StandsIn x e
  body : (e : Expr) (b : Branch) (bs : List Branch) (i : ℕ) → out-Node e.node ≡ Node-F.Case bs → slice_get bs i ≡ Some b → StandsIn x b.body → StandsIn x e

-- every expression of a model
abbrev pub expressions : Model → List Expr
expressions m =
    map (λ (d : Define). d.body) m.defines
    ++ m.inits ++ m.invars
    ++ map (λ (a : Assign). a.body) m.nows
    ++ map (λ (a : Assign). a.body) m.firsts
    ++ map (λ (a : Assign). a.body) m.nexts
    ++ m.trans ++ m.fair ++ m.specs

-- it stands in an expression of the model
pub record StandsInModel (m : Model) (e : Expr) : Type 0 where
  pub place : ℕ
  pub whole : Expr
  pub there : slice_get (expressions m) place ≡ Some whole
  pub stands : StandsIn e whole

-- the literal TRUE or FALSE
abbrev pub is_constant_layer : Node-F Node Branch Expr → Bool
is_constant_layer (Node-F.Lit (v.Bool b)) = true
is_constant_layer _ = false

-- the literal TRUE or FALSE
abbrev pub is_constant : Expr → Bool
is_constant e = is_constant_layer (out-Node e.node)

-- a Boolean expression without CTL operators, without fault as the body of a SPEC of the model, that is a constant or stands in the model
pub record IsAtomOf (m : Model) (e : Expr) : Type 0 where
  pub boolean : IsTrue (is_boolean (own (kinds_of m) e))
  pub propositional : IsFalse (written e).0
  pub no_fault : whole_fault (kinds_of m) timed (Some truth) e ≡ None
  pub stands : IsTrue (is_constant e) ⊎ StandsInModel m e
