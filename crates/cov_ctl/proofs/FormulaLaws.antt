-- A formula and its formula over explicit states.
use Rattle.std.proofs.Common.{◌≡◌, ℕ, ◌+◌, Bool, refl, sym, ap, ap₂, subst, ◌∙◌}
use Rattle.cov_syntax.specs.declared.tree.Expr.{Expr}
use Rattle.cov_logic.specs.Formula as tree
use Rattle.cov_logic.specs.Occurrence as logic
use Rattle.cov_ctl.specs.declared.formula.Formula.{Formula, roll-Formula}
use Rattle.cov_ctl.specs.declared.formula.Formula.TheVariants as v
use Rattle.cov_ctl.specs.declared.formula.Formula.TheOpen.{Formula-F}
use Rattle.cov_ctl.specs.declared.formula.Formula.TheFolds as formulas
use Rattle.cov_ctl.specs.declared.formula.Formula.TheFolds.{ind-Formula, map-Formula, fold-roll-Formula}
use Rattle.cov_ctl.specs.Constants.{constant_expr}
use Rattle.cov_ctl.specs.Formulas.{formula_of, node_formula}
use Rattle.cov_ctl.specs.Sizes.{size, node_size}

pub of_constant : (truth : Bool) → formula_of (v.Atom (constant_expr truth)) ≡ tree.Atom (constant_expr truth)
of_constant truth = search formulas.the_lemmas

-- the size of a formula, as the numbering counts it
abbrev HasSize : Formula → Type 0
HasSize f = size f ≡ logic.size (formula_of f)

step : (l : Formula-F Formula) → node_size (map-Formula Formula ℕ size l) ≡ logic.size (node_formula (map-Formula Formula (tree.Formula Expr) formula_of l))
    → HasSize (roll-Formula l)
step l e = fold-roll-Formula ℕ node_size l ∙ e ∙ ap logic.size (sym (fold-roll-Formula (tree.Formula Expr) node_formula l))

abbrev Sized : Type 0
Sized = (f : Formula) × HasSize f

at_node : (y : Formula-F Sized) → HasSize (roll-Formula (map-Formula Sized Formula (λ e. e.0) y))
at_node (Formula-F.Atom e) = step (Formula-F.Atom e) refl
at_node (Formula-F.Not f) = step (Formula-F.Not f.0) (ap (λ n. 1 + n) f.1)
at_node (Formula-F.And f g) = step (Formula-F.And f.0 g.0) (ap₂ (λ m n. 1 + m + n) f.1 g.1)
at_node (Formula-F.Or f g) = step (Formula-F.Or f.0 g.0) (ap₂ (λ m n. 1 + m + n) f.1 g.1)
at_node (Formula-F.Implies f g) = step (Formula-F.Implies f.0 g.0) (ap₂ (λ m n. 1 + m + n) f.1 g.1)
at_node (Formula-F.Ex f) = step (Formula-F.Ex f.0) (ap (λ n. 1 + n) f.1)
at_node (Formula-F.Ef f) = step (Formula-F.Ef f.0) (ap (λ n. 1 + n) f.1)
at_node (Formula-F.Eg f) = step (Formula-F.Eg f.0) (ap (λ n. 1 + n) f.1)
at_node (Formula-F.Eu f g) = step (Formula-F.Eu f.0 g.0) (ap₂ (λ m n. 1 + m + n) f.1 g.1)
at_node (Formula-F.Ax f) = step (Formula-F.Ax f.0) (ap (λ n. 1 + n) f.1)
at_node (Formula-F.Af f) = step (Formula-F.Af f.0) (ap (λ n. 1 + n) f.1)
at_node (Formula-F.Ag f) = step (Formula-F.Ag f.0) (ap (λ n. 1 + n) f.1)
at_node (Formula-F.Au f g) = step (Formula-F.Au f.0 g.0) (ap₂ (λ m n. 1 + m + n) f.1 g.1)

pub size_of : (f : Formula) → size f ≡ logic.size (formula_of f)
size_of = ind-Formula HasSize (λ x y h. subst (λ z. HasSize (roll-Formula z)) h (at_node y))
