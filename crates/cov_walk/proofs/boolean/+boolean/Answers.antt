use Rattle.std.proofs.Common.{◌≡◌, nat_eq, length, arith, ap, sym, ◌∙◌}
use Rattle.cov_syntax.specs.declared.tree.Node.TheVariants as n
use Rattle.cov_model.specs.Kinds.{is_boolean}
use Rattle.cov_model.specs.Walk.{Judged}
use Rattle.cov_walk.proofs.Nodes.{expr_at}
use Rattle.cov_walk.proofs.Booleans.{members_boolean, bodies_boolean, no_bodies, at_set, at_case}
use Rattle.cov_walk.proofs.boolean.+boolean.Goals as goal

pub is_boolean-returns : goal.is_boolean-returns
is_boolean-returns t c = c.is_boolean_node.ensures c.args.e.now.place ∙ ap (λ (j : Judged). is_boolean j.own) (sym (expr_at c.args.ks.now c.args.e.now))

pub is_boolean_node-returns-else-len-eq0 : goal.is_boolean_node-returns-else-len-eq0
is_boolean_node-returns-else-len-eq0 t c place =
    c.has_boolean.ensures ∙ members_boolean c.args.ks.now c.in-Set.items (λ e. omega (arith, e))
    ∙ at_set c.args.ks.now c.args.node.now c.in-Set.items place (c.in-Set.is ∙ sym (n.rolls-Set c.in-Set.items))

pub is_boolean_node-returns-then-len-eq0-2 : goal.is_boolean_node-returns-then-len-eq0-2
is_boolean_node-returns-then-len-eq0-2 t c place =
    let none : length c.in-Case.branches ≡ 0 = omega arith in
    let zero_len : c.len-in-Case.result ≡ 0 = omega arith in
    ap (λ k. nat_eq k 0) zero_len ∙ no_bodies c.args.ks.now c.in-Case.branches none
    ∙ at_case c.args.ks.now c.args.node.now c.in-Case.branches place (c.in-Case.is ∙ sym (n.rolls-Case c.in-Case.branches))

pub is_boolean_node-returns-else-len-eq0-2 : goal.is_boolean_node-returns-else-len-eq0-2
is_boolean_node-returns-else-len-eq0-2 t c place =
    c.has_boolean_body.ensures ∙ bodies_boolean c.args.ks.now c.in-Case.branches (λ e. omega (arith, e))
    ∙ at_case c.args.ks.now c.args.node.now c.in-Case.branches place (c.in-Case.is ∙ sym (n.rolls-Case c.in-Case.branches))
