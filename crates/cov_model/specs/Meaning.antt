-- What an expression means where it is read: its value, and the values among which an assignment may choose.
use Rattle.std.specs.Prelude.{ℕ, Bool, false, not, ◌||◌, if◌then◌else◌, ◌==◌, ℤ, neg_ℤ, List, [], ◌∷◌, ◌++◌, Option, Some, None}
use Rattle.std.specs.List.{list_any}
use Rattle.cov_syntax.specs.declared.tree.Value.{Value}
use Rattle.cov_syntax.specs.declared.tree.Value.TheVariants as v
use Rattle.cov_syntax.specs.declared.tree.Op1.{Op1}
use Rattle.cov_syntax.specs.declared.tree.Op1.TheVariants as op1
use Rattle.cov_syntax.specs.declared.tree.Op2.{Op2}
use Rattle.cov_syntax.specs.declared.tree.Op2.TheVariants as op2
use Rattle.cov_syntax.specs.declared.tree.Expr.{Expr}
use Rattle.cov_syntax.specs.declared.tree.Node.TheOpen.{Node-F, Branch-F, Expr-F}
use Rattle.cov_syntax.specs.declared.tree.Node.TheFolds.{fold-Expr}
use Rattle.cov_model.specs.declared.model.Signal.{Signal}
use Rattle.cov_model.specs.declared.model.Signal.TheVariants as signal
use Rattle.cov_model.specs.declared.model.Define.{Define}
use Rattle.cov_model.specs.Values.{truth, number, same_value, inverse, within, item, operated, whole}

-- What is read in one state: the values of the variables and of the DEFINEs, and the signal whose readings are inverted.
pub record Readings : Type 0 where
  pub vars : List Value
  pub defs : List Value
  pub flip : Option Signal

-- Where an expression is read: in the present state, with the next state at hand.
pub record Point : Type 0 where
  pub present : Readings
  pub next : Readings

-- the same variable or the same DEFINE
abbrev pub same_signal : Signal → Signal → Bool
same_signal (signal.Var i) (signal.Var j) = i == j
same_signal (signal.Def i) (signal.Def j) = i == j
same_signal _ _ = false

-- where the flip names the signal, its value is inverted
abbrev pub flipped : Option Signal → Signal → Value → Value
flipped None q x = x
flipped (Some p) q x = if same_signal p q then inverse x else x

-- a variable as it is read
abbrev pub variable : Readings → ℕ → Value
variable r i = flipped r.flip (signal.Var i) (item r.vars i)

-- a DEFINE as it is read
abbrev pub define : Readings → ℕ → Value
define r i = flipped r.flip (signal.Def i) (item r.defs i)

-- The value of an expression at a point, and whether a value is among its choices there.
pub record Meaning : Type 0 where
  pub value : Point → Value
  pub allows : Point → Value → Bool

-- an expression with one choice, its value
abbrev pub single : (Point → Value) → Meaning
single f = record { value = f; allows = λ p x. same_value (f p) x }

-- an expression with choices and no value
abbrev pub choices : (Point → Value → Bool) → Meaning
choices f = record { value = λ p. v.Bool false; allows = f }

-- the point at which the operand of `next` is read
abbrev pub moved : Point → Point
moved p = record { present = p.next; next = p.next }

-- an operator with one operand; a CTL operator has no value
abbrev pub prefixed : (ℤ → ℤ) → Op1 → Meaning → Meaning
prefixed fit op1.Not e = single (λ p. v.Bool (not (truth (e.value p))))
prefixed fit op1.Neg e = single (λ p. v.Int (fit (neg_ℤ (number (e.value p)))))
prefixed fit op1.Next e = single (λ p. e.value (moved p))
prefixed fit _ e = single (λ p. v.Bool false)

-- an operator with two operands
abbrev pub joined : (ℤ → ℤ) → Op2 → Meaning → Meaning → Meaning
joined fit op2.Union a b = choices (λ p x. a.allows p x || b.allows p x)
joined fit op2.Member a b = single (λ p. v.Bool (b.allows p (a.value p)))
joined fit op a b = single (λ p. operated fit op (a.value p) (b.value p))

-- the body of the first branch whose guard is true
abbrev pub first_body : {A : Type 0} → (Meaning → A) → Point → A → List (Meaning × Meaning) → A
first_body of p none [] = none
first_body of p none (b ∷ bs) = if truth (b.0.value p) then of b.1 else first_body of p none bs

-- a node, given what its parts mean
abbrev pub of_node : (ℤ → ℤ) → Node-F Meaning (Meaning × Meaning) Meaning → Meaning
of_node fit (Node-F.Lit x) = single (λ p. x)
of_node fit (Node-F.Path path) = single (λ p. v.Bool false)
of_node fit (Node-F.Var i) = single (λ p. variable p.present i)
of_node fit (Node-F.Def i) = single (λ p. define p.present i)
of_node fit (Node-F.One op e) = prefixed fit op e
of_node fit (Node-F.Two op a b) = joined fit op a b
of_node fit (Node-F.Range low high) = choices (λ p x. within low high x)
of_node fit (Node-F.Set items) = choices (λ p x. list_any (λ m. m.allows p x) items)
of_node fit (Node-F.Case branches) = record {
  value = λ p. first_body (λ m. m.value p) p (v.Bool false) branches;
  allows = λ p x. first_body (λ m. m.allows p x) p false branches;
}

-- a branch: its guard and its body
abbrev pub of_branch : Branch-F Meaning (Meaning × Meaning) Meaning → Meaning × Meaning
of_branch b = (b.guard, b.body)

-- an expression, by its node
abbrev pub of_expr : Expr-F Meaning (Meaning × Meaning) Meaning → Meaning
of_expr e = e.node

-- what an expression means, each number being taken through `fit`
abbrev pub meaning_by : (ℤ → ℤ) → Expr → Meaning
meaning_by fit = fold-Expr Meaning (Meaning × Meaning) Meaning (of_node fit) of_branch of_expr

-- what an expression means
abbrev pub meaning : Expr → Meaning
meaning = meaning_by whole

-- the value of an expression at a point
abbrev pub value : Expr → Point → Value
value e = (meaning e).value

-- whether a value is among the choices of an expression at a point
abbrev pub allows : Expr → Point → Value → Bool
allows e = (meaning e).allows

-- a point without a step: a state, and the same state after it
abbrev pub still : Readings → Point
still r = record { present = r; next = r }

-- The values of the DEFINEs in their order, behind those that stand already. Each may read those before it.
abbrev pub define_values : List Define → List Value → Option Signal → List Value → List Value
define_values [] vars flip done = done
define_values (d ∷ ds) vars flip done = define_values ds vars flip (done ++ value d.body (still (record { vars = vars; defs = done; flip = flip })) ∷ [])

-- what is read in a state, given by the values of its variables
abbrev pub readings : List Define → List Value → Option Signal → Readings
readings ds vars flip = record { vars = vars; defs = define_values ds vars flip []; flip = flip }
