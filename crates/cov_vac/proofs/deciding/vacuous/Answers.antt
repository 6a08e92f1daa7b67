use Rattle.std.proofs.Common.{◌≡◌, ◌≤◌, Bool, not, sym, ◌∙◌, subst, refl, arith, ap}
use Rattle.cov_syntax.specs.declared.tree.Expr.{Expr}
use Rattle.cov_logic.specs.Formula.{Formula, Atom}
use Rattle.cov_logic.specs.Occurrence as logic
use Rattle.cov_logic.specs.Polarity.{positive}
use Rattle.cov_logic.specs.Replacement.{replace}
use Rattle.cov_ctl.specs.Constants.{constant_expr}
use Rattle.cov_ctl.specs.Formulas.{formula_of}
use Rattle.cov_ctl.specs.Sizes.{size}
use Rattle.cov_ctl.proofs.FormulaLaws.{of_constant, size_of}
use Rattle.cov_ctl.proofs.Replacements.{size_replaced}
use Rattle.cov_model.specs.Atoms.{IsAtomOf}
use Rattle.cov_formulas.specs.Formulas.{AllAtoms}
use Rattle.cov_formulas.proofs.ConstantAtoms.{constant_of}
use Rattle.cov_formulas.proofs.Kept.{all_replaced}
use Rattle.cov_vac.proofs.OneConstant.{answered, if_ok}
use Rattle.cov_vac.proofs.deciding.vacuous.Goals as goal

pub verdict-requires-clause-formula : goal.verdict-requires-clause-formula
verdict-requires-clause-formula c =
    let m = c.args.m.now in
    let f : Formula Expr = formula_of c.args.f.now in
    let b : Bool = not (positive f c.args.n) in
    let new : AllAtoms (IsAtomOf m) (Atom (constant_expr b)) = subst (AllAtoms (IsAtomOf m)) (of_constant b) (constant_of m b) in
    subst (AllAtoms (IsAtomOf m)) (sym c.in-Ok.ensures) (all_replaced (IsAtomOf m) (Atom (constant_expr b)) new f c.args.n c.requires.formula)

pub verdict-requires-clause-small : goal.verdict-requires-clause-small
verdict-requires-clause-small c =
    let f : Formula Expr = formula_of c.args.f.now in
    let x : Formula Expr = Atom (constant_expr (not (positive f c.args.n))) in
    let less : logic.size (replace f c.args.n x) ≤ logic.size f = size_replaced f c.args.n x refl in
    let is : size c.in-Ok.changed ≡ logic.size (replace f c.args.n x) = size_of c.in-Ok.changed ∙ ap logic.size c.in-Ok.ensures in
    let own : size c.args.f.now ≡ logic.size f = size_of c.args.f.now in
    let small = c.requires.small in
    omega arith

pub returns-clause-ok : goal.returns-clause-ok
returns-clause-ok c =
    if_ok c.verdict.result _ _ (λ answer e. answered c.args.m.now (formula_of c.args.f.now) (formula_of c.in-Ok.changed) c.args.n answer c.in-Ok.ensures e) c.verdict.ensures.ok
