use Rattle.std.proofs.Common.{rules, arith, ◌≡◌, ◌<◌, length, Bool, IsTrue, IsFalse, List, ap, sym, subst, ◌∙◌}
use Rattle.std.proofs.lemmas.Result.{IfOk-weaker}
use Rattle.cov_syntax.specs.declared.tree.Op2.{Op2}
use Rattle.cov_syntax.specs.declared.tree.Op2.TheVariants as op2
use Rattle.cov_syntax.specs.declared.tree.Expr.{Expr}
use Rattle.cov_syntax.specs.declared.tree.Branch.{Branch}
use Rattle.cov_syntax.specs.declared.tree.Node.TheVariants as n
use Rattle.cov_model.specs.Kinds.{is_boolean}
use Rattle.cov_model.specs.Settled.{settled}
use Rattle.cov_model.specs.Walk.{Judged, judged, own, put, asks_truth, asked_of_two}
use Rattle.cov_walk.specs.Parts.{judged_node, judged_branch, settled_branch, some_boolean, some_body_boolean}
use Rattle.cov_walk.specs.Places.{is_union}
use Rattle.cov_walk.proofs.Nodes.{expr_at}
use Rattle.cov_walk.proofs.SettledLemmas.{alike, covers, item_needs, one_settled_more, branch_settled, body_own, left_needs, right_needs, set_needs, case_needs, union_settled, two_settled, set_settled, case_settled}
use Rattle.cov_walk.proofs.settling.+settle.Goals as goal

pub settle-returns : goal.settle-returns
settle-returns t c =
    let e : Expr = c.args.e.now in
    let b : Bool = c.is_settled_in_truth-in_truth.result in
    let q : (judged_node c.args.ks.now e.node e.place).settled b ≡ settled c.args.ks.now c.args.in_truth e
    = ap (λ (j : Judged). j.settled b) (sym (expr_at c.args.ks.now e)) ∙ ap (λ (t : Bool). (judged c.args.ks.now e).settled t) c.is_settled_in_truth-in_truth.ensures ∙ alike c.args.ks.now e c.args.in_truth in
    IfOk-weaker c.settle_node.result (λ r. (IsTrue (is_boolean (judged_node c.args.ks.now e.node e.place).own) → IsTrue b) → r ≡ (judged_node c.args.ks.now e.node e.place).settled b) (λ r. r ≡ settled c.args.ks.now c.args.in_truth e)
    (λ r h. h (covers c.args.ks.now e c.args.in_truth b c.is_settled_in_truth-in_truth.ensures) ∙ q) c.settle_node.ensures

pub settle_part-returns : goal.settle_part-returns
settle_part-returns t c =
    let e : Expr = c.args.e.now in
    let b : Bool = c.args.in_truth in
    IfOk-weaker c.settle_node.result
    (λ r. (IsTrue (is_boolean (judged_node c.args.ks.now e.node e.place).own) → IsTrue b) → r ≡ (judged_node c.args.ks.now e.node e.place).settled b)
    (λ r. (IsTrue (is_boolean (own c.args.ks.now e)) → IsTrue b) → r ≡ settled c.args.ks.now b e)
    (λ r h g. h (λ k. g (ap (λ (j : Judged). is_boolean j.own) (expr_at c.args.ks.now e) ∙ k)) ∙ ap (λ (j : Judged). j.settled b) (sym (expr_at c.args.ks.now e)))
    c.settle_node.ensures

pub settle_node-returns-in_ok-b-in-Union : goal.settle_node-returns-in_ok-b-in-Union
settle_node-returns-in_ok-b-in-Union t c =
    let b : Bool = c.args.in_truth in
    let place = c.args.place in
    let is : c.args.node.now ≡ n.Two op2.Union c.in-Two.a c.in-Two.b = c.in-Two.is ∙ ap (λ (o : Op2). n.Two o c.in-Two.a c.in-Two.b) c.in-Union.is in
    let needed : Type 0 = IsTrue (is_boolean (judged_node c.args.ks.now c.args.node.now place).own) → IsTrue b in
    let l : needed → c.in_ok-a-in-Union.a ≡ settled c.args.ks.now b c.in-Two.a
    = λ g. c.in_ok-a-in-Union.ensures (λ h. left_needs c.args.ks.now c.args.node.now place c.in-Two.a c.in-Two.b b is g (subst (λ (e : Expr). IsTrue (is_boolean (own c.args.ks.now e))) c.get-in-Union.ensures h))
    ∙ ap (λ (e : Expr). settled c.args.ks.now b e) c.get-in-Union.ensures in
    let r : needed → c.in_ok-b-in-Union.b ≡ settled c.args.ks.now b c.in-Two.b
    = λ g. c.in_ok-b-in-Union.ensures (λ h. right_needs c.args.ks.now c.args.node.now place c.in-Two.a c.in-Two.b b is g (subst (λ (e : Expr). IsTrue (is_boolean (own c.args.ks.now e))) c.get-in-Union-2.ensures h))
    ∙ ap (λ (e : Expr). settled c.args.ks.now b e) c.get-in-Union-2.ensures in
    let q : needed → put place (n.Two c.in-Two.op c.in_ok-a-in-Union.a c.in_ok-b-in-Union.b) ≡ (judged_node c.args.ks.now c.args.node.now place).settled b
    = λ g. ap (λ (o : Op2). put place (n.Two o c.in_ok-a-in-Union.a c.in_ok-b-in-Union.b)) c.in-Union.is
    ∙ ap (λ (e : Expr). put place (n.Two op2.Union e c.in_ok-b-in-Union.b)) (l g)
    ∙ ap (λ (e : Expr). put place (n.Two op2.Union (settled c.args.ks.now b c.in-Two.a) e)) (r g)
    ∙ union_settled c.args.ks.now c.args.node.now place c.in-Two.a c.in-Two.b b is g in
    IfOk-weaker c.put_two.result (λ x. x ≡ put place (n.Two c.in-Two.op c.in_ok-a-in-Union.a c.in_ok-b-in-Union.b)) (λ x. needed → x ≡ (judged_node c.args.ks.now c.args.node.now place).settled b) (λ x h g. h ∙ q g) c.put_two.ensures

pub settle_node-returns-in_ok-b-in_default : goal.settle_node-returns-in_ok-b-in_default
settle_node-returns-in_ok-b-in_default t c =
    let op : Op2 = c.in-Two.op in
    let place = c.args.place in
    let u : IsFalse (is_union op) = search rules in
    let s : Bool = asks_truth (asked_of_two op (own c.args.ks.now c.in-Two.a) (own c.args.ks.now c.in-Two.b)) in
    let x : Bool = c.are_in_truth-in_truth.result in
    let is : x ≡ s = c.are_in_truth-in_truth.ensures
    ∙ ap (λ (e : Expr). asks_truth (asked_of_two op (own c.args.ks.now e) (own c.args.ks.now c.get-in_default-2.result.now))) c.get-in_default.ensures
    ∙ ap (λ (e : Expr). asks_truth (asked_of_two op (own c.args.ks.now c.in-Two.a) (own c.args.ks.now e))) c.get-in_default-2.ensures in
    let l : c.in_ok-a-in_default.a ≡ settled c.args.ks.now s c.in-Two.a = c.in_ok-a-in_default.ensures ∙ ap (λ (e : Expr). settled c.args.ks.now x e) c.get-in_default-3.ensures ∙ ap (λ (y : Bool). settled c.args.ks.now y c.in-Two.a) is in
    let r : c.in_ok-b-in_default.b ≡ settled c.args.ks.now s c.in-Two.b = c.in_ok-b-in_default.ensures ∙ ap (λ (e : Expr). settled c.args.ks.now x e) c.get-in_default-4.ensures ∙ ap (λ (y : Bool). settled c.args.ks.now y c.in-Two.b) is in
    let q : put place (n.Two op c.in_ok-a-in_default.a c.in_ok-b-in_default.b) ≡ (judged_node c.args.ks.now c.args.node.now place).settled c.args.in_truth
    = ap (λ (e : Expr). put place (n.Two op e c.in_ok-b-in_default.b)) l
    ∙ ap (λ (e : Expr). put place (n.Two op (settled c.args.ks.now s c.in-Two.a) e)) r
    ∙ two_settled c.args.ks.now c.args.node.now place op c.in-Two.a c.in-Two.b c.args.in_truth c.in-Two.is u in
    IfOk-weaker c.put_two-in_default.result (λ x. x ≡ put place (n.Two op c.in_ok-a-in_default.a c.in_ok-b-in_default.b)) (λ x. (IsTrue (is_boolean (judged_node c.args.ks.now c.args.node.now place).own) → IsTrue c.args.in_truth) → x ≡ (judged_node c.args.ks.now c.args.node.now place).settled c.args.in_truth) (λ x h g. h ∙ q) c.put_two-in_default.ensures

pub settle_node-returns-in_ok-items-in-Set : goal.settle_node-returns-in_ok-items-in-Set
settle_node-returns-in_ok-items-in-Set t c g =
    c.put-in-Set.ensures
    ∙ ap (λ (xs : List Expr). put c.args.place (n.Set xs)) (c.in_ok-items-in-Set.ensures (set_needs c.args.ks.now c.args.node.now c.args.place c.in-Set.items c.args.in_truth c.in-Set.is g))
    ∙ set_settled c.args.ks.now c.args.node.now c.args.place c.in-Set.items c.args.in_truth c.in-Set.is g

pub settle_node-returns-in_ok-branches-in-Case : goal.settle_node-returns-in_ok-branches-in-Case
settle_node-returns-in_ok-branches-in-Case t c g =
    c.put-in-Case.ensures
    ∙ ap (λ (xs : List Branch). put c.args.place (n.Case xs)) (c.in_ok-branches-in-Case.ensures (case_needs c.args.ks.now c.args.node.now c.args.place c.in-Case.branches c.args.in_truth c.in-Case.is g))
    ∙ case_settled c.args.ks.now c.args.node.now c.args.place c.in-Case.branches c.args.in_truth c.in-Case.is g

pub settle_branch-returns : goal.settle_branch-returns
settle_branch-returns t c g = branch_settled c.args.ks.now c.args.b.now c.args.in_truth c.in_ok-guard.guard c.in_ok-body.body c.in_ok-guard.ensures (c.in_ok-body.ensures g)

pub settle_all-loop-e-preserved : goal.settle_all-loop-e-preserved
settle_all-loop-e-preserved t c g =
    let xs : List Expr = c.as_slice-e-items.result.now in
    let lt : c.loop-e.e-index < length xs = omega arith in
    let all : IsTrue (some_boolean c.args.ks.now xs) → IsTrue c.args.in_truth = subst (λ (es : List Expr). IsTrue (some_boolean c.args.ks.now es) → IsTrue c.args.in_truth) (sym c.as_slice-e-items.ensures) g in
    one_settled_more (settled c.args.ks.now c.args.in_truth) xs c.loop-e.settled c.push.new.self c.loop-e.e-index c.e-item.result c.in_ok-settle_part.field-0 lt c.e-item.is (c.loop-e.invariant g)
    (c.in_ok-settle_part.ensures (item_needs (λ (e : Expr). is_boolean (own c.args.ks.now e)) xs c.loop-e.e-index c.e-item.result c.args.in_truth lt c.e-item.is all))
    c.in_ok-push.ensures.ok

pub settle_branches-loop-b-preserved : goal.settle_branches-loop-b-preserved
settle_branches-loop-b-preserved t c g =
    let xs : List Branch = c.as_slice-b-items.result.now in
    let lt : c.loop-b.b-index < length xs = omega arith in
    let all : IsTrue (some_body_boolean c.args.ks.now xs) → IsTrue c.args.in_truth = subst (λ (bs : List Branch). IsTrue (some_body_boolean c.args.ks.now bs) → IsTrue c.args.in_truth) (sym c.as_slice-b-items.ensures) g in
    one_settled_more (settled_branch c.args.ks.now c.args.in_truth) xs c.loop-b.settled c.push.new.self c.loop-b.b-index c.b-item.result c.in_ok-settle_branch.field-0 lt c.b-item.is (c.loop-b.invariant g)
    (c.in_ok-settle_branch.ensures (λ k. item_needs (λ (b : Branch). is_boolean (judged_branch c.args.ks.now b).1.own) xs c.loop-b.b-index c.b-item.result c.args.in_truth lt c.b-item.is all (body_own c.args.ks.now c.b-item.result ∙ k)))
    c.in_ok-push.ensures.ok
