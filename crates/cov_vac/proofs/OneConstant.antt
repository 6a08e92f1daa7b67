-- The verdict on the formula with one constant in the place of an occurrence decides its vacuity.
use Rattle.std.proofs.Common.{◌≡◌, ℕ, Bool, true, false, not, if◌then◌else◌, IsTrue, ◌↔◌, None, Result, Ok, Err, IfOk, refl, sym, ◌∙◌, ap, subst}
use Rattle.std.proofs.lemmas.Bool.{false≢true}
use Rattle.cov_syntax.specs.declared.tree.Expr.{Expr}
use Rattle.cov_syntax.specs.declared.tree.Value.{Value}
use Rattle.cov_syntax.specs.declared.tree.Node.{roll-Node}
use Rattle.cov_syntax.specs.declared.tree.Node.TheVariants as n
use Rattle.cov_syntax.specs.declared.tree.Node.TheOpen.{Node-F}
use Rattle.cov_model.specs.Walk.{put}
use Rattle.cov_syntax.specs.declared.tree.Value.TheVariants as v
use Rattle.cov_logic.specs.Formula.{Formula, Atom}
use Rattle.cov_logic.specs.Polarity.{positive}
use Rattle.cov_logic.specs.Replacement.{replace}
use Rattle.cov_logic.specs.Truth.{Sat}
use Rattle.cov_logic.specs.Vacuity.{IsVacuous}
use Rattle.cov_logic.specs.Verdict.{Passes}
use Rattle.cov_logic.proofs.OneConstant.{constant_decides}
use Rattle.cov_ctl.specs.Constants.{constant_expr}
use Rattle.cov_model.specs.declared.model.Model.{Model}
use Rattle.cov_model.specs.Meaning.{Meaning, of_node, of_branch, of_expr}
use Rattle.cov_model.specs.Paths.{structure, labelling}
use Rattle.cov_model.specs.States.{State, at}
use Rattle.cov_model.specs.Values.{truth, whole}
use Rattle.cov_order.proofs.ByParts.{fold_step}
use Rattle.cov_formulas.specs.Over.{IsFormulaOver}
use Rattle.cov_formulas.proofs.ConstantAtoms.{constant_over}

-- the formula that is a constant
abbrev constant : Bool → Formula Expr
constant b = Atom (constant_expr b)

lit_is : (x : Value) → put (record { start = 0; stop = 0 }) (n.Lit x) ≡ put (record { start = 0; stop = 0 }) (roll-Node (Node-F.Lit x))
lit_is x = ap (put (record { start = 0; stop = 0 })) (sym (n.rolls-Lit x))

-- it is what it says at each state
constant_at : (m : Model) (s : State) (b : Bool) → labelling m None s (constant_expr b) ≡ b
constant_at m s b =
    ap (λ (e : Expr). labelling m None s e) (lit_is (v.Bool b))
    ∙ ap (λ (x : Meaning). truth (x.value (at m s None))) (fold_step Meaning (Meaning × Meaning) Meaning (of_node whole) of_branch of_expr (record { start = 0; stop = 0 }) (Node-F.Lit (v.Bool b)))

false_nowhere : (m : Model) (s : State) → Sat (structure m) (labelling m None) (constant false) s → ⊥
false_nowhere m s h = false≢true (sym (constant_at m s false) ∙ h)

true_everywhere : (m : Model) (s : State) → Sat (structure m) (labelling m None) (constant true) s
true_everywhere m s = constant_at m s true

chosen : (b : Bool) → (if b then constant false else constant true) ≡ constant (not b)
chosen true = refl
chosen false = refl

decided : (m : Model) (f : Formula Expr) (n : ℕ)
    → IsVacuous (structure m) (labelling m None) (IsFormulaOver m) f n ↔ Passes (structure m) (labelling m None) (replace f n (constant (not (positive f n))))
decided m f n =
    subst (λ (x : Formula Expr). IsVacuous (structure m) (labelling m None) (IsFormulaOver m) f n ↔ Passes (structure m) (labelling m None) (replace f n x)) (chosen (positive f n))
    (constant_decides (structure m) (labelling m None) (constant false) (constant true) (false_nowhere m) (true_everywhere m) (IsFormulaOver m) (constant_over m false) (constant_over m true) f n)

-- the verdict on that formula is the answer
pub answered : (m : Model) (f g : Formula Expr) (n : ℕ) (answer : Bool) → g ≡ replace f n (constant (not (positive f n)))
    → IsTrue answer ↔ Passes (structure m) (labelling m None) g → IsTrue answer ↔ IsVacuous (structure m) (labelling m None) (IsFormulaOver m) f n
answered m f g n answer is e =
    let d = decided m f n in
    let P : Formula Expr → Type 0 = Passes (structure m) (labelling m None) in
    (λ a. d.1 (subst P is (e.0 a)), λ v. e.1 (subst P (sym is) (d.0 v)))

pub if_ok : {X E : Type 0} (res : Result X E) (P Q : X → Type 0) → ((x : X) → P x → Q x) → IfOk res P → IfOk res Q
if_ok (Ok x) P Q f h = f x h
if_ok (Err e) P Q f h = tt
