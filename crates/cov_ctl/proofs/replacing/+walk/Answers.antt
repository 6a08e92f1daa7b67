use Rattle.std.proofs.Common.{ℕ, ◌-◌, subst}
use Rattle.cov_ctl.specs.declared.formula.Formula.{Formula}
use Rattle.cov_ctl.specs.declared.replacing.Replaced.{Replaced}
use Rattle.cov_ctl.specs.Formulas.{formula_of}
use Rattle.cov_ctl.specs.Replacing.{IsReplaced}
use Rattle.cov_ctl.proofs.BinaryNodes.{at_each, both_replaced}
use Rattle.cov_ctl.proofs.replacing.+walk.Goals as goal

pub returns-in_ok-formula-in-And : goal.returns-in_ok-formula-in-And
returns-in_ok-formula-in-And t c =
    let a : Replaced = c.in_ok-a-in-And.a in
    let b : Replaced = c.in_ok-b-in-And.b in
    let left : Formula = c.get.result.now in
    let one_less : IsReplaced (formula_of left) (c.args.n - 1) (formula_of c.args.g.now) a =
    subst (λ (k : ℕ). IsReplaced (formula_of left) k (formula_of c.args.g.now) a) c.saturating_sub-left.ensures c.in_ok-a-in-And.ensures in
    both_replaced _ _ _ _ _ (at_each c.args.f.now c.in-And.a c.in-And.b c.in-And.is).over c.args.n (formula_of c.args.g.now) c.if-n-eq1.false a b
    (subst (λ (f : Formula). IsReplaced (formula_of f) (c.args.n - 1) (formula_of c.args.g.now) a) c.get.ensures one_less)
    (subst (λ (f : Formula). IsReplaced (formula_of f) a.left (formula_of c.args.g.now) b) c.get-in-And.ensures c.in_ok-b-in-And.ensures)
    (formula_of c.in_ok-formula-in-And.formula) c.in_ok-formula-in-And.ensures
