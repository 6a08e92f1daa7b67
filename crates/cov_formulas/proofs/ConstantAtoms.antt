-- TRUE and FALSE are atoms of every model.
use Rattle.std.proofs.Common.{◌≡◌, Bool, ◌&&◌, ◌∷◌, [], IsTrue, Some, inl, ap, subst, sym, ◌∙◌}
use Rattle.cov_syntax.specs.declared.tree.Span.{Span}
use Rattle.cov_syntax.specs.declared.tree.Value.TheVariants as v
use Rattle.cov_syntax.specs.declared.tree.Expr.{Expr}
use Rattle.cov_syntax.specs.declared.tree.Node.{roll-Node, out-roll-Node}
use Rattle.cov_syntax.specs.declared.tree.Node.TheVariants as n
use Rattle.cov_syntax.specs.declared.tree.Node.TheOpen.{Node-F}
use Rattle.cov_model.specs.declared.model.Model.{Model}
use Rattle.cov_model.specs.Kinds.{is_boolean}
use Rattle.cov_model.specs.Walk.{first, truth, Judged, put, kind_fault}
use Rattle.cov_model.specs.Settled.{kinds_of, timed}
use Rattle.cov_model.specs.WellFormed.{cites_layer}
use Rattle.cov_model.specs.Atoms.{IsAtomOf, is_constant, is_constant_layer}
use Rattle.cov_model.proofs.Closed.{judged_step}
use Rattle.cov_model.proofs.Standing.{constant_settled}
use Rattle.cov_order.proofs.ByParts.{Layer, fold_step}
use Rattle.cov_ctl.specs.declared.formula.Formula.TheVariants as f
use Rattle.cov_ctl.specs.Constants.{constant_expr}
use Rattle.cov_formulas.specs.Formulas.{AllAtoms, IsFormulaOf}
use Rattle.cov_formulas.specs.Over.{IsAtomOver}
use Rattle.cov_formulas.proofs.NoOperators.{temporal_step}
use Rattle.cov_formulas.proofs.Shapes.{of_atom}
use Rattle.cov_formulas.proofs.WrittenSame.{written_is}

abbrev nowhere : Span
nowhere = record { start = 0; stop = 0 }

abbrev literal : Bool → Layer
literal b = Node-F.Lit (v.Bool b)

abbrev tree : Bool → Expr
tree b = put nowhere (roll-Node (literal b))

is_literal : (b : Bool) → IsTrue (is_constant (tree b))
is_literal b = ap is_constant_layer (out-roll-Node (literal b))

literal_over : (m : Model) (b : Bool) → IsAtomOver m (tree b)
literal_over m b = record {
  boolean = ap (λ (j : Judged). is_boolean j.own) (judged_step (kinds_of m) nowhere (literal b));
  propositional = written_is (tree b) ∙ temporal_step nowhere (literal b);
  no_fault = ap (λ (j : Judged). first (j.fault timed ∷ kind_fault (Some truth) j ∷ [])) (judged_step (kinds_of m) nowhere (literal b));
  cites = fold_step Bool Bool Bool (cites_layer m) (λ c. c.guard && c.body) (λ e. e.node) nowhere (literal b);
  settles = constant_settled (kinds_of m) (tree b) (is_literal b);
}

literal_of : (m : Model) (b : Bool) → IsAtomOf m (tree b)
literal_of m b = let over = literal_over m b in
    record { boolean = over.boolean; propositional = over.propositional; no_fault = over.no_fault; stands = inl (is_literal b) }

is_tree : (b : Bool) → tree b ≡ constant_expr b
is_tree b = ap (put nowhere) (n.rolls-Lit (v.Bool b))

pub constant_over : (m : Model) (b : Bool) → IsAtomOver m (constant_expr b)
constant_over m b = subst (IsAtomOver m) (is_tree b) (literal_over m b)

pub constant_of : (m : Model) (b : Bool) → IsFormulaOf m (f.Atom (constant_expr b))
constant_of m b = subst (AllAtoms (IsAtomOf m)) (sym (of_atom (constant_expr b))) (subst (IsAtomOf m) (is_tree b) (literal_of m b))
