use Rattle.std.proofs.Common.{◌≡◌, ℕ, ◌+◌, ◌-◌, ◌<◌, not, subst}
use Rattle.std.specs.declared.ops.ControlFlow.TheVariants.{Break}
use Rattle.cov_logic.specs.Occurrence.{size}
use Rattle.cov_ctl.specs.declared.formula.Formula.{Formula}
use Rattle.cov_ctl.specs.declared.occurrences.Node.{Node}
use Rattle.cov_ctl.specs.Formulas.{formula_of}
use Rattle.cov_ctl.specs.Occurrences.{Tells}
use Rattle.cov_ctl.proofs.BinaryNodes.{at_kept, at_implies, kept_left, turned_left, told_right}
use Rattle.cov_ctl.proofs.occurrences.+walk.Goals as goal

pub returns-in_err-left-in-Implies : goal.returns-in_err-left-in-Implies
returns-in_err-left-in-Implies t c =
    let x : Node = c.in_err-left-in-Implies.field-0.0 in
    rw c.from_residual.ensures
    (turned_left _ _ _ _ (at_implies c.args.f.now c.in-Implies.premise c.in-Implies.conclusion c.in-Implies.is) c.args.n c.args.positive c.if-n-eq1.false x
    (subst (λ (f : Formula). Tells (formula_of f) (c.args.n - 1) (not c.args.positive) (Break x)) c.get-in-Implies.ensures c.in_err-left-in-Implies.ensures))

pub returns-in_ok-left-in-Implies : goal.returns-in_ok-left-in-Implies
returns-in_ok-left-in-Implies t c =
    let left : ℕ = c.in_ok-left-in-Implies.left in
    told_right _ _ _ _ _ (at_implies c.args.f.now c.in-Implies.premise c.in-Implies.conclusion c.in-Implies.is) c.args.n left c.args.positive c.if-n-eq1.false
    (subst (λ (f : Formula). (0 < left) × (left + size (formula_of f) ≡ c.args.n - 1)) c.get-in-Implies.ensures c.in_ok-left-in-Implies.ensures) c.walk-in-Implies-2.result
    (subst (λ (f : Formula). Tells (formula_of f) left c.args.positive c.walk-in-Implies-2.result) c.get-in-Implies-2.ensures c.walk-in-Implies-2.ensures)

pub returns-in_err-left-in-And : goal.returns-in_err-left-in-And
returns-in_err-left-in-And t c =
    let x : Node = c.in_err-left-in-And.field-0.0 in
    rw c.from_residual-in_err-left-in-And.ensures
    (kept_left _ _ _ _ (at_kept c.args.f.now c.in-And.f c.in-And.g c.in-And.is).over c.args.n c.args.positive c.if-n-eq1.false x
    (subst (λ (f : Formula). Tells (formula_of f) (c.args.n - 1) c.args.positive (Break x)) c.get-in-And.ensures c.in_err-left-in-And.ensures))

pub returns-in_ok-left-in-And : goal.returns-in_ok-left-in-And
returns-in_ok-left-in-And t c =
    let left : ℕ = c.in_ok-left-in-And.left in
    told_right _ _ _ _ _ (at_kept c.args.f.now c.in-And.f c.in-And.g c.in-And.is).over c.args.n left c.args.positive c.if-n-eq1.false
    (subst (λ (f : Formula). (0 < left) × (left + size (formula_of f) ≡ c.args.n - 1)) c.get-in-And.ensures c.in_ok-left-in-And.ensures) c.walk-in-And-2.result
    (subst (λ (f : Formula). Tells (formula_of f) left c.args.positive c.walk-in-And-2.result) c.get-in-And-2.ensures c.walk-in-And-2.ensures)
