use Rattle.std.proofs.Common.{◌≡◌, ◌++◌, ◌∙◌, ap, ap₂, sym, List, Bool}
use Rattle.cov_syntax.specs.declared.tree.Expr.{Expr}
use Rattle.cov_model.specs.Order.{reads}
use Rattle.cov_order.specs.Parts as parts
use Rattle.cov_conditions.specs.Marks.{with_marks}
use Rattle.cov_conditions.proofs.Marking.{marks_append, item_turn, branch_turn}
use Rattle.cov_conditions.proofs.Reading.{two_reads}
use Rattle.cov_conditions.proofs.marks.+marking.Goals as goal

pub mark_node-returns-in-Two : goal.mark_node-returns-in-Two
mark_node-returns-in-Two t c =
    let old : List Bool = c.args.marks.now in
    let a : Expr = c.get-in-Two.result.now in
    let b : Expr = c.get-in-Two-2.result.now in
    let both : c.mark_reads-in-Two-2.new.marks ≡ with_marks old (reads a ++ reads b) =
    c.mark_reads-in-Two-2.ensures ∙ ap (λ (ms : List Bool). with_marks ms (reads b)) c.mark_reads-in-Two.ensures ∙ sym (marks_append old (reads a) (reads b)) in
    let parts : parts.node_reads c.args.n.now ≡ reads a ++ reads b =
    two_reads c.args.n.now c.in-Two.field-0 c.in-Two.a c.in-Two.b c.in-Two.is ∙ ap₂ (λ (x y : Expr). reads x ++ reads y) (sym c.get-in-Two.ensures) (sym c.get-in-Two-2.ensures) in
    both ∙ ap (with_marks old) (sym parts)

pub mark_items-loop-e-preserved : goal.mark_items-loop-e-preserved
mark_items-loop-e-preserved t c = item_turn c.loop-e.marks c.mark_reads.new.marks c.as_slice-e-items.result.now c.loop-e.e-index c.e-item.result c.loop-e-test.true c.e-item.is c.mark_reads.ensures ∙ c.loop-e.invariant

pub mark_branches-loop-b-preserved : goal.mark_branches-loop-b-preserved
mark_branches-loop-b-preserved t c = branch_turn c.loop-b.marks c.mark_reads.new.marks c.mark_reads-in-loop-b.new.marks c.as_slice-b-items.result.now c.loop-b.b-index c.b-item.result c.loop-b-test.true c.b-item.is c.mark_reads.ensures c.mark_reads-in-loop-b.ensures ∙ c.loop-b.invariant
