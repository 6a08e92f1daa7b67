use Rattle.std.proofs.Common.{rules, arith, ℤ, w32, to_z, of_z, to_z-of_z, ◌≡◌, ◌<◌, ◌+◌, true, List, [], ◌∷◌, map, take, drop, length, Option, None, refl, ap, sym, subst, ◌∙◌}
use Rattle.std.specs.Prelude.{unwrap_or}
use Rattle.cov_syntax.specs.declared.fault.ModelFault.{ModelFault}
use Rattle.cov_syntax.specs.declared.tree.Op2.{Op2}
use Rattle.cov_syntax.specs.declared.tree.Expr.{Expr}
use Rattle.cov_syntax.specs.declared.tree.Branch.{Branch}
use Rattle.cov_syntax.specs.declared.tree.Node.TheOpen.{Node-F}
use Rattle.cov_syntax.specs.declared.tree.Node.TheVariants as n
use Rattle.cov_model.specs.Kinds.{Kind, boolean, kind_at}
use Rattle.cov_model.specs.Trees as trees
use Rattle.cov_model.specs.Walk.{Judged, May, judged, of_node, judged_two, simple, part_may, plain_may, may_of_one, may_of_left, may_of_right, branch_of, guards}
use Rattle.cov_kinds.specs.Seen.{seen}
use Rattle.cov_walk.specs.Found.{TellsFault, IsFound, Answers}
use Rattle.cov_walk.specs.Gathered.{HasMembers, HasArms, members_fault, arms_fault}
use Rattle.cov_walk.specs.Parts.{judged_branch}
use Rattle.cov_walk.specs.Places.{may_of}
use Rattle.cov_walk.proofs.Firsts.{told_second, first_past, first_one}
use Rattle.cov_walk.proofs.Simple.{answers_told}
use Rattle.cov_walk.proofs.Nodes.{answers_at, judged_at, tree_of, guard_trees, right_told, member_told, arm_told, mapped_more, members_left, arms_front, arms_told}
use Rattle.cov_walk.proofs.judging.+judge.Goals as goal

pub judge_node-returns-in-Lit : goal.judge_node-returns-in-Lit
judge_node-returns-in-Lit t c =
    let may : May = may_of c.args.at.may in
    answers_at c.args.ks.now c.args.node.now (Node-F.Lit c.in-Lit.value) c.args.at.place may c.literal_found.result (c.in-Lit.is ∙ sym (n.rolls-Lit c.in-Lit.value)) (c.literal_found.ensures may)

pub judge_node-returns-in-Path : goal.judge_node-returns-in-Path
judge_node-returns-in-Path t c =
    let may : May = may_of c.args.at.may in
    answers_at c.args.ks.now c.args.node.now (Node-F.Path c.in-Path.field-0) c.args.at.place may c.leaf.result (c.in-Path.is ∙ sym (n.rolls-Path c.in-Path.field-0)) (c.leaf.ensures (n.Path c.in-Path.field-0) may)

pub judge_node-returns-in_ok-kind_read-in-Var : goal.judge_node-returns-in_ok-kind_read-in-Var
judge_node-returns-in_ok-kind_read-in-Var t c =
    let may : May = may_of c.args.at.may in
    let k : seen c.in_ok-kind_read-in-Var.field-0 ≡ kind_at c.args.ks.now.vars c.in-Var.i = c.in_ok-kind_read-in-Var.ensures ∙ ap (λ (o : Option Kind). unwrap_or o boolean) c.var.ensures in
    let P : Kind → Type 0 = λ k. Answers (simple c.args.at.place (n.Var c.in-Var.i) k (λ may. []) (n.Var c.in-Var.i)) may c.leaf-in-Var.result in
    answers_at c.args.ks.now c.args.node.now (Node-F.Var c.in-Var.i) c.args.at.place may c.leaf-in-Var.result (c.in-Var.is ∙ sym (n.rolls-Var c.in-Var.i))
    (subst P k (c.leaf-in-Var.ensures (n.Var c.in-Var.i) may))

pub judge_node-returns-in_ok-kind_read-in-Def : goal.judge_node-returns-in_ok-kind_read-in-Def
judge_node-returns-in_ok-kind_read-in-Def t c =
    let may : May = may_of c.args.at.may in
    let k : seen c.in_ok-kind_read-in-Def.field-0 ≡ kind_at c.args.ks.now.defs c.in-Def.i = c.in_ok-kind_read-in-Def.ensures ∙ ap (λ (o : Option Kind). unwrap_or o boolean) c.def.ensures in
    let P : Kind → Type 0 = λ k. Answers (simple c.args.at.place (n.Def c.in-Def.i) k (λ may. []) (n.Def c.in-Def.i)) may c.leaf-in-Def.result in
    answers_at c.args.ks.now c.args.node.now (Node-F.Def c.in-Def.i) c.args.at.place may c.leaf-in-Def.result (c.in-Def.is ∙ sym (n.rolls-Def c.in-Def.i))
    (subst P k (c.leaf-in-Def.ensures (n.Def c.in-Def.i) may))

pub judge_node-returns-in_ok-operand-in-One : goal.judge_node-returns-in_ok-operand-in-One
judge_node-returns-in_ok-operand-in-One t c =
    let may : May = may_of c.args.at.may in
    let h : IsFound (judged c.args.ks.now c.in-One.e) (may_of_one c.in-One.op may) c.in_ok-operand-in-One.operand = search rules in
    answers_at c.args.ks.now c.args.node.now (Node-F.One c.in-One.op c.in-One.e) c.args.at.place may c.one.result (c.in-One.is ∙ sym (n.rolls-One c.in-One.op c.in-One.e))
    (c.one.ensures c.args.ks.now (judged c.args.ks.now c.in-One.e) h)

pub judge_node-returns-in_err-right-in-Two : goal.judge_node-returns-in_err-right-in-Two
judge_node-returns-in_err-right-in-Two t c =
    let may : May = may_of c.args.at.may in
    let op : Op2 = c.in-Two.op in
    let i : Judged = judged c.args.ks.now c.in-Two.a in
    let j : Judged = judged c.args.ks.now c.in-Two.b in
    let f : IsFound i (may_of_left op may) c.in_ok-left-in-Two.left = search rules in
    let z = c.in_err-right-in-Two.field-0.0 in
    let h : TellsFault (j.fault (may_of_right op may)) z = search rules in
    answers_at c.args.ks.now c.args.node.now (Node-F.Two op c.in-Two.a c.in-Two.b) c.args.at.place may c.from_residual-in_err-right-in-Two.result (c.in-Two.is ∙ sym (n.rolls-Two op c.in-Two.a c.in-Two.b))
    (answers_told (judged_two c.args.at.place op i j) may c.from_residual-in_err-right-in-Two.result z (search rules) (right_told c.args.at.place op i j may z f.none h))

pub judge_node-returns-in_default : goal.judge_node-returns-in_default
judge_node-returns-in_default t c =
    let may : May = may_of c.args.at.may in
    let op : Op2 = c.in-Two.op in
    let i : Judged = judged c.args.ks.now c.in-Two.a in
    let j : Judged = judged c.args.ks.now c.in-Two.b in
    let f : IsFound i (may_of_left op may) c.in_ok-left-in-Two.left = search rules in
    let g : IsFound j (may_of_right op may) c.in_ok-right-in-Two.right = search rules in
    let p : j.tree.place ≡ c.get-in_default.result.now.place = ap (λ (e : Expr). e.place) (tree_of c.args.ks.now c.in-Two.b) ∙ search rules in
    answers_at c.args.ks.now c.args.node.now (Node-F.Two op c.in-Two.a c.in-Two.b) c.args.at.place may c.two.result (c.in-Two.is ∙ sym (n.rolls-Two op c.in-Two.a c.in-Two.b))
    (c.two.ensures i j f g p)

pub judge_node-returns-in-Range : goal.judge_node-returns-in-Range
judge_node-returns-in-Range t c =
    let may : May = may_of c.args.at.may in
    let low : ℤ = to_z w32 (of_z w32 c.in-Range.low) in
    let high : ℤ = to_z w32 (of_z w32 c.in-Range.high) in
    let p : low ≡ c.in-Range.low = grind (arith, to_z-of_z) in
    let q : high ≡ c.in-Range.high = grind (arith, to_z-of_z) in
    let P : ℤ → ℤ → Type 0 = λ a b. Answers (of_node c.args.ks.now (Node-F.Range a b) c.args.at.place) may c.range.result in
    answers_at c.args.ks.now c.args.node.now (Node-F.Range c.in-Range.low c.in-Range.high) c.args.at.place may c.range.result (c.in-Range.is ∙ sym (n.rolls-Range c.in-Range.low c.in-Range.high))
    (subst (λ a. P a c.in-Range.high) p (subst (λ b. P low b) q (c.range.ensures c.args.ks.now)))

pub judge_node-returns-in_err-members-in-Set : goal.judge_node-returns-in_err-members-in-Set
judge_node-returns-in_err-members-in-Set t c =
    let may : May = may_of c.args.at.may in
    let js : List Judged = map (judged c.args.ks.now) c.in-Set.items in
    let z = c.in_err-members-in-Set.field-0.0 in
    let h : TellsFault (members_fault (part_may may) js) z = search rules in
    answers_at c.args.ks.now c.args.node.now (Node-F.Set c.in-Set.items) c.args.at.place may c.from_residual-in_err-members-in-Set.result (c.in-Set.is ∙ sym (n.rolls-Set c.in-Set.items))
    (answers_told (of_node c.args.ks.now (Node-F.Set js) c.args.at.place) may c.from_residual-in_err-members-in-Set.result z (search rules) (member_told c.args.at.place js may _ z h))

pub judge_node-returns-in_ok-members-in-Set : goal.judge_node-returns-in_ok-members-in-Set
judge_node-returns-in_ok-members-in-Set t c =
    let may : May = may_of c.args.at.may in
    let js : List Judged = map (judged c.args.ks.now) c.in-Set.items in
    let h : HasMembers js c.in_ok-members-in-Set.members × (members_fault (part_may may) js ≡ None) = search rules in
    answers_at c.args.ks.now c.args.node.now (Node-F.Set c.in-Set.items) c.args.at.place may c.set.result (c.in-Set.is ∙ sym (n.rolls-Set c.in-Set.items))
    (c.set.ensures js (n.Set (map (λ (j : Judged). j.tree) js)) (λ in_truth. n.Set (map (λ (j : Judged). j.settled in_truth) js)) h.0 h.1)

pub judge_node-returns-in_err-arms-in-Case : goal.judge_node-returns-in_err-arms-in-Case
judge_node-returns-in_err-arms-in-Case t c =
    let may : May = may_of c.args.at.may in
    let bs : List (Judged × Judged) = map (judged_branch c.args.ks.now) c.in-Case.branches in
    let z = c.in_err-arms-in-Case.field-0.0 in
    let h : TellsFault (arms_fault may bs) z = search rules in
    answers_at c.args.ks.now c.args.node.now (Node-F.Case c.in-Case.branches) c.args.at.place may c.from_residual-in_err-arms-in-Case.result (c.in-Case.is ∙ sym (n.rolls-Case c.in-Case.branches))
    (answers_told (of_node c.args.ks.now (Node-F.Case bs) c.args.at.place) may c.from_residual-in_err-arms-in-Case.result z (search rules) (arm_told c.args.at.place bs may _ z h))

pub judge_node-returns-in_ok-arms-in-Case : goal.judge_node-returns-in_ok-arms-in-Case
judge_node-returns-in_ok-arms-in-Case t c =
    let may : May = may_of c.args.at.may in
    let bs : List (Judged × Judged) = map (judged_branch c.args.ks.now) c.in-Case.branches in
    let h : HasArms bs c.in_ok-arms-in-Case.arms × (arms_fault may bs ≡ None) = search rules in
    let e : c.is_closed.result ≡ trees.is_closed [] (map (λ (j : Judged). j.tree) (guards bs)) = c.is_closed.ensures ∙ ap (λ (xs : List Branch). trees.is_closed [] (map (λ (b : Branch). b.guard) xs)) c.as_slice.ensures ∙ ap (trees.is_closed []) (sym (guard_trees c.args.ks.now c.in-Case.branches)) in
    answers_at c.args.ks.now c.args.node.now (Node-F.Case c.in-Case.branches) c.args.at.place may c.case.result (c.in-Case.is ∙ sym (n.rolls-Case c.in-Case.branches))
    (c.case.ensures bs (n.Case (map (λ (b : Judged × Judged). branch_of b.0.tree b.1.tree) bs)) (λ in_truth. n.Case (map (λ (b : Judged × Judged). branch_of (b.0.settled true) (b.1.settled in_truth)) bs)) h.0 h.1 e)

pub judge_branches-returns-in_err-body : goal.judge_branches-returns-in_err-body
judge_branches-returns-in_err-body t c =
    let may : May = may_of c.args.may in
    let f : Branch → Judged × Judged = judged_branch c.args.ks.now in
    let xs : List Branch = c.as_slice-b-items.result.now in
    let lt : c.loop-b.b-index < length xs = omega arith in
    let g : Judged = judged c.args.ks.now c.b-item.result.guard in
    let e : Judged = judged c.args.ks.now c.b-item.result.body in
    let guard : IsFound g (plain_may may) c.in_ok-guard.guard = search rules in
    let front = arms_front f xs c.loop-b.b-index c.b-item.result g e may lt c.b-item.is (judged_at c.args.ks.now c.b-item.result) in
    let z = c.in_err-body.field-0.0 in
    let h : TellsFault (e.fault (part_may may)) z = search rules in
    let all : xs ≡ c.args.branches.now = search rules in
    arms_told (map f c.args.branches.now) may c.from_residual-in_err-body.result z (search rules)
    (subst (λ (bs : List Branch). TellsFault (arms_fault may (map f bs)) z) all
    (told_second _ _ _ _ z (sym c.loop-b.invariant.left ∙ front) guard.none h))

pub judge_branches-loop-b-preserved : goal.judge_branches-loop-b-preserved
judge_branches-loop-b-preserved t c =
    let may : May = may_of c.args.may in
    let f : Branch → Judged × Judged = judged_branch c.args.ks.now in
    let xs : List Branch = c.as_slice-b-items.result.now in
    let lt : c.loop-b.b-index < length xs = omega arith in
    let g : Judged = judged c.args.ks.now c.b-item.result.guard in
    let e : Judged = judged c.args.ks.now c.b-item.result.body in
    let guard : IsFound g (plain_may may) c.in_ok-guard.guard = search rules in
    let front = arms_front f xs c.loop-b.b-index c.b-item.result g e may lt c.b-item.is (judged_at c.args.ks.now c.b-item.result) in
    let body : IsFound e (part_may may) c.in_ok-body.body = search rules in
    let P : List (Judged × Judged) → Type 0 = λ bs. HasArms bs c.in_ok-arms.arms in
    let rest : Option ModelFault = arms_fault may (map f (drop (c.loop-b.b-index + 1) xs)) in
    record {
      found = subst P (sym (mapped_more f xs c.loop-b.b-index c.b-item.result (g, e) lt c.b-item.is (judged_at c.args.ks.now c.b-item.result)))
          (c.in_ok-arms.ensures (map f (take c.loop-b.b-index xs)) g e (plain_may may) (part_may may) c.loop-b.invariant.found guard body);
      left = sym (front ∙ first_past (g.fault (plain_may may)) (e.fault (part_may may) ∷ rest ∷ []) guard.none ∙ first_past (e.fault (part_may may)) (rest ∷ []) body.none ∙ first_one rest) ∙ c.loop-b.invariant.left;
    }

pub judge_members-loop-e-preserved : goal.judge_members-loop-e-preserved
judge_members-loop-e-preserved t c =
    let may : May = may_of c.args.may in
    let f : Expr → Judged = judged c.args.ks.now in
    let xs : List Expr = c.as_slice-e-items.result.now in
    let lt : c.loop-e.e-index < length xs = omega arith in
    let j : Judged = f c.e-item.result in
    let member : IsFound j may c.in_ok-member.member = search rules in
    let P : List Judged → Type 0 = λ js. HasMembers js c.in_ok-members.members in
    record {
      found = subst P (sym (mapped_more f xs c.loop-e.e-index c.e-item.result j lt c.e-item.is refl))
          (c.in_ok-members.ensures (map f (take c.loop-e.e-index xs)) j may c.loop-e.invariant.found member);
      left = members_left f xs c.loop-e.e-index c.e-item.result may lt c.e-item.is member.none ∙ c.loop-e.invariant.left;
    }
