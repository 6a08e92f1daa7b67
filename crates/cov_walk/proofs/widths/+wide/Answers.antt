use Rattle.std.proofs.Common.{rules, arith, ◌≡◌, ◌≤◌, ◌<◌, ◌+◌, ℕ, max, true, inl, inr, List, [], ◌∷◌, ◌++◌, map, take, drop, length, Option, None, refl, ap, sym, subst, ◌∙◌}
use Rattle.cov_syntax.specs.declared.fault.ModelFault.{ModelFault}
use Rattle.cov_syntax.specs.declared.tree.Op2.{Op2}
use Rattle.cov_syntax.specs.declared.tree.Op2.TheVariants as op2
use Rattle.cov_syntax.specs.declared.tree.Expr.{Expr}
use Rattle.cov_syntax.specs.declared.tree.Branch.{Branch}
use Rattle.cov_syntax.specs.declared.tree.Node.TheOpen.{Node-F}
use Rattle.cov_syntax.specs.declared.tree.Node.TheVariants as n
use Rattle.cov_model.specs.Kinds.{Kinds}
use Rattle.cov_model.specs.Trees as trees
use Rattle.cov_model.specs.Walk.{Judged, May, judged, of_node, judged_two, first, part_may, plain_may, may_of_one, may_of_left, may_of_right, branch_of, guards}
use Rattle.cov_walk.specs.Found.{TellsFault, IsFound}
use Rattle.cov_walk.specs.Gathered.{HasMembers, HasArms, members_fault, arms_fault}
use Rattle.cov_walk.specs.Parts.{judged_branch}
use Rattle.cov_walk.specs.Places.{may_of}
use Rattle.cov_walk.specs.Widest.{widest}
use Rattle.cov_walk.specs.Wide.{widest_member, widest_arm, widest_branch}
use Rattle.cov_walk.proofs.Firsts.{told_second, first_past, first_one}
use Rattle.cov_walk.proofs.Nodes.{judged_at, tree_of, guard_trees, member_told, arm_told, mapped_more, members_left, arms_front}
use Rattle.cov_walk.proofs.WidestLemmas.{answers_wide, told_wide, leaf_wide, found_at, most_left, arms_wide_told}
use Rattle.cov_walk.proofs.widths.+wide.Goals as goal

pub wide-returns-in_ok-operand-in-One : goal.wide-returns-in_ok-operand-in-One
wide-returns-in_ok-operand-in-One t c =
    let may : May = may_of c.args.may in
    let ks : Kinds = c.args.ks.now in
    let e : Expr = c.in-One.a in
    let f : IsFound (judged ks e) (may_of_one c.in-One.op may) c.in_ok-operand-in-One.operand.found = found_at ks c.get.result.now e _ _ _ c.get.ensures c.operand.ensures c.in_ok-operand-in-One.ensures.0 in
    let w : c.in_ok-operand-in-One.operand.widest ≡ widest ks e = c.in_ok-operand-in-One.ensures.1 ∙ ap (widest ks) c.get.ensures in
    answers_wide ks c.args.e.now (Node-F.One c.in-One.op e) may c.above.result (c.in-One.is ∙ sym (n.rolls-One c.in-One.op e)) c.in_ok-operand-in-One.operand.widest w
    (c.above.ensures (of_node ks (Node-F.One c.in-One.op (judged ks e)) c.args.e.now.place) may (c.one.ensures ks (judged ks e) f))

pub wide-returns-in-Union : goal.wide-returns-in-Union
wide-returns-in-Union t c =
    let may : May = may_of c.args.may in
    let ks : Kinds = c.args.ks.now in
    let a : Expr = c.in-Two.a in
    let b : Expr = c.in-Two.b in
    let is = c.in-Two.is ∙ ap (λ (o : Op2). n.Two o a b) c.in-Union.is ∙ sym (n.rolls-Two op2.Union a b) in
    let f : IsFound (judged ks a) (part_may may) c.in_ok-left-in-Two.left.found = found_at ks c.get-in-Two.result.now a _ _ _ c.get-in-Two.ensures (c.left.ensures ∙ ap (λ (o : Op2). may_of_left o may) c.in-Union.is) c.in_ok-left-in-Two.ensures.0 in
    let g : IsFound (judged ks b) (part_may may) c.in_ok-right-in-Two.right.found = found_at ks c.get-in-Two-2.result.now b _ _ _ c.get-in-Two-2.ensures (c.right.ensures ∙ ap (λ (o : Op2). may_of_right o may) c.in-Union.is) c.in_ok-right-in-Two.ensures.0 in
    let v : c.in_ok-left-in-Two.left.widest ≡ widest ks a = c.in_ok-left-in-Two.ensures.1 ∙ ap (widest ks) c.get-in-Two.ensures in
    let w : c.in_ok-right-in-Two.right.widest ≡ widest ks b = c.in_ok-right-in-Two.ensures.1 ∙ ap (widest ks) c.get-in-Two-2.ensures in
    let m : c.max-below.result ≡ max c.in_ok-left-in-Two.left.widest c.in_ok-right-in-Two.right.widest = search rules in
    answers_wide ks c.args.e.now (Node-F.Two op2.Union a b) may c.above-in-Union.result is c.max-below.result
    (m ∙ ap (λ (k : ℕ). max k c.in_ok-right-in-Two.right.widest) v ∙ ap (λ (k : ℕ). max (widest ks a) k) w)
    (c.above-in-Union.ensures (judged_two c.args.e.now.place op2.Union (judged ks a) (judged ks b)) may (c.union.ensures (judged ks a) (judged ks b) f g))

pub wide-returns-in_default : goal.wide-returns-in_default
wide-returns-in_default t c =
    let may : May = may_of c.args.may in
    let ks : Kinds = c.args.ks.now in
    let op : Op2 = c.in-Two.op in
    let a : Expr = c.in-Two.a in
    let b : Expr = c.in-Two.b in
    let f : IsFound (judged ks a) (may_of_left op may) c.in_ok-left-in-Two.left.found = found_at ks c.get-in-Two.result.now a _ _ _ c.get-in-Two.ensures c.left.ensures c.in_ok-left-in-Two.ensures.0 in
    let g : IsFound (judged ks b) (may_of_right op may) c.in_ok-right-in-Two.right.found = found_at ks c.get-in-Two-2.result.now b _ _ _ c.get-in-Two-2.ensures c.right.ensures c.in_ok-right-in-Two.ensures.0 in
    let v : c.in_ok-left-in-Two.left.widest ≡ widest ks a = c.in_ok-left-in-Two.ensures.1 ∙ ap (widest ks) c.get-in-Two.ensures in
    let w : c.in_ok-right-in-Two.right.widest ≡ widest ks b = c.in_ok-right-in-Two.ensures.1 ∙ ap (widest ks) c.get-in-Two-2.ensures in
    let m : c.max-below.result ≡ max c.in_ok-left-in-Two.left.widest c.in_ok-right-in-Two.right.widest = search rules in
    let p : (judged ks b).tree.place ≡ c.get-in_default.result.now.place = ap (λ (e : Expr). e.place) (tree_of ks b ∙ sym c.get-in_default.ensures) in
    answers_wide ks c.args.e.now (Node-F.Two op a b) may c.above-in_default.result (c.in-Two.is ∙ sym (n.rolls-Two op a b)) c.max-below.result
    (m ∙ ap (λ (k : ℕ). max k c.in_ok-right-in-Two.right.widest) v ∙ ap (λ (k : ℕ). max (widest ks a) k) w)
    (c.above-in_default.ensures (judged_two c.args.e.now.place op (judged ks a) (judged ks b)) may (c.two-found.ensures (judged ks a) (judged ks b) f g p))

pub wide-returns-in_err-gathered-in-Set : goal.wide-returns-in_err-gathered-in-Set
wide-returns-in_err-gathered-in-Set t c =
    let may : May = may_of c.args.may in
    let ks : Kinds = c.args.ks.now in
    let js : List Judged = map (judged ks) c.in-Set.items in
    let z = c.in_err-gathered-in-Set.field-0.0 in
    let h : TellsFault (members_fault (part_may may) js) z = subst (λ (m : May). TellsFault (members_fault m js) z) c.part.ensures c.in_err-gathered-in-Set.ensures in
    told_wide ks c.args.e.now (Node-F.Set c.in-Set.items) may c.from_residual-in_err-gathered-in-Set.result (c.in-Set.is ∙ sym (n.rolls-Set c.in-Set.items)) z (search rules)
    (member_told c.args.e.now.place js may _ z h)

pub wide-returns-in_ok-gathered-in-Set : goal.wide-returns-in_ok-gathered-in-Set
wide-returns-in_ok-gathered-in-Set t c =
    let may : May = may_of c.args.may in
    let ks : Kinds = c.args.ks.now in
    let js : List Judged = map (judged ks) c.in-Set.items in
    let x = c.in_ok-gathered-in-Set.ensures in
    let none : members_fault (part_may may) js ≡ None = subst (λ (m : May). members_fault m js ≡ None) c.part.ensures x.1 in
    answers_wide ks c.args.e.now (Node-F.Set c.in-Set.items) may c.above-in-Set.result (c.in-Set.is ∙ sym (n.rolls-Set c.in-Set.items)) c.in_ok-gathered-in-Set.gathered.widest x.2
    (c.above-in-Set.ensures (of_node ks (Node-F.Set js) c.args.e.now.place) may
    (c.set.ensures js (n.Set (map (λ (j : Judged). j.tree) js)) (λ in_truth. n.Set (map (λ (j : Judged). j.settled in_truth) js)) x.0 none))

pub wide-returns-in_err-gathered-in-Case : goal.wide-returns-in_err-gathered-in-Case
wide-returns-in_err-gathered-in-Case t c =
    let may : May = may_of c.args.may in
    let ks : Kinds = c.args.ks.now in
    let bs : List (Judged × Judged) = map (judged_branch ks) c.in-Case.branches in
    let z = c.in_err-gathered-in-Case.field-0.0 in
    let h : TellsFault (arms_fault may bs) z = c.in_err-gathered-in-Case.ensures in
    told_wide ks c.args.e.now (Node-F.Case c.in-Case.branches) may c.from_residual-in_err-gathered-in-Case.result (c.in-Case.is ∙ sym (n.rolls-Case c.in-Case.branches)) z (search rules)
    (arm_told c.args.e.now.place bs may _ z h)

pub wide-returns-in_ok-gathered-in-Case : goal.wide-returns-in_ok-gathered-in-Case
wide-returns-in_ok-gathered-in-Case t c =
    let may : May = may_of c.args.may in
    let ks : Kinds = c.args.ks.now in
    let bs : List (Judged × Judged) = map (judged_branch ks) c.in-Case.branches in
    let x = c.in_ok-gathered-in-Case.ensures in
    let e : c.is_closed-closed.result ≡ trees.is_closed [] (map (λ (j : Judged). j.tree) (guards bs)) = c.is_closed-closed.ensures ∙ ap (λ (xs : List Branch). trees.is_closed [] (map (λ (b : Branch). b.guard) xs)) c.as_slice.ensures ∙ ap (trees.is_closed []) (sym (guard_trees ks c.in-Case.branches)) in
    answers_wide ks c.args.e.now (Node-F.Case c.in-Case.branches) may c.above-in-Case.result (c.in-Case.is ∙ sym (n.rolls-Case c.in-Case.branches)) c.in_ok-gathered-in-Case.gathered.widest x.2
    (c.above-in-Case.ensures (of_node ks (Node-F.Case bs) c.args.e.now.place) may
    (c.case.ensures bs (n.Case (map (λ (b : Judged × Judged). branch_of b.0.tree b.1.tree) bs)) (λ in_truth. n.Case (map (λ (b : Judged × Judged). branch_of (b.0.settled true) (b.1.settled in_truth)) bs)) x.0 x.1 e))

pub wide-returns-in-Lit : goal.wide-returns-in-Lit
wide-returns-in-Lit t c =
    let may : May = may_of c.args.may in
    let ks : Kinds = c.args.ks.now in
    let e : Expr = c.args.e.now in
    let r = c.above-in-Lit.result in
    let a = c.above-in-Lit.ensures (judged ks e) may c.judge.ensures in
    elim c.in-Lit.is [
      | inl x ↦ leaf_wide ks e (Node-F.Lit x.0) may r (x.1 ∙ sym (n.rolls-Lit x.0)) refl a
      | inr w ↦ elim w [
        | inl x ↦ leaf_wide ks e (Node-F.Path x.0) may r (x.1 ∙ sym (n.rolls-Path x.0)) refl a
        | inr w ↦ elim w [
          | inl x ↦ leaf_wide ks e (Node-F.Var x.0) may r (x.1 ∙ sym (n.rolls-Var x.0)) refl a
          | inr w ↦ elim w [
            | inl x ↦ leaf_wide ks e (Node-F.Def x.0) may r (x.1 ∙ sym (n.rolls-Def x.0)) refl a
            | inr x ↦ leaf_wide ks e (Node-F.Range x.0 x.1) may r (x.2 ∙ sym (n.rolls-Range x.0 x.1)) refl a
          ]
        ]
      ]
    ]

pub wide_branches-returns-in_err-body : goal.wide_branches-returns-in_err-body
wide_branches-returns-in_err-body t c =
    let may : May = may_of c.args.may in
    let ks : Kinds = c.args.ks.now in
    let f : Branch → Judged × Judged = judged_branch ks in
    let xs : List Branch = c.as_slice-b-items.result.now in
    let lt : c.loop-b.b-index < length xs = omega arith in
    let g : Judged = judged ks c.b-item.result.guard in
    let e : Judged = judged ks c.b-item.result.body in
    let guard : IsFound g (plain_may may) c.in_ok-guard.guard.found = found_at ks _ _ _ _ _ refl c.plain.ensures c.in_ok-guard.ensures.0 in
    let front = arms_front f xs c.loop-b.b-index c.b-item.result g e may lt c.b-item.is (judged_at ks c.b-item.result) in
    let z = c.in_err-body.field-0.0 in
    let h : TellsFault (e.fault (part_may may)) z = subst (λ (m : May). TellsFault (e.fault m) z) c.part.ensures c.in_err-body.ensures in
    let all : xs ≡ c.args.branches.now = c.as_slice-b-items.ensures in
    arms_wide_told (map f c.args.branches.now) _ may c.from_residual-in_err-body.result z (search rules)
    (subst (λ (bs : List Branch). TellsFault (arms_fault may (map f bs)) z) all
    (told_second _ _ _ _ z (sym c.loop-b.invariant.left ∙ front) guard.none h))

pub wide_branches-loop-b-preserved : goal.wide_branches-loop-b-preserved
wide_branches-loop-b-preserved t c =
    let may : May = may_of c.args.may in
    let ks : Kinds = c.args.ks.now in
    let f : Branch → Judged × Judged = judged_branch ks in
    let xs : List Branch = c.as_slice-b-items.result.now in
    let lt : c.loop-b.b-index < length xs = omega arith in
    let g : Judged = judged ks c.b-item.result.guard in
    let e : Judged = judged ks c.b-item.result.body in
    let guard : IsFound g (plain_may may) c.in_ok-guard.guard.found = found_at ks _ _ _ _ _ refl c.plain.ensures c.in_ok-guard.ensures.0 in
    let front = arms_front f xs c.loop-b.b-index c.b-item.result g e may lt c.b-item.is (judged_at ks c.b-item.result) in
    let body : IsFound e (part_may may) c.in_ok-body.body.found = found_at ks _ _ _ _ _ refl c.part.ensures c.in_ok-body.ensures.0 in
    let P : List (Judged × Judged) → Type 0 = λ bs. HasArms bs c.in_ok-arms.arms in
    let rest : Option ModelFault = arms_fault may (map f (drop (c.loop-b.b-index + 1) xs)) in
    let m : c.max.result ≡ max c.loop-b.widest c.in_ok-guard.guard.widest = search rules in
    let o : c.max-widest.result ≡ max c.max.result c.in_ok-body.body.widest = search rules in
    let u : c.in_ok-guard.guard.widest ≡ widest ks c.b-item.result.guard = c.in_ok-guard.ensures.1 in
    let v : c.in_ok-body.body.widest ≡ widest ks c.b-item.result.body = c.in_ok-body.ensures.1 in
    let next : c.max-widest.result ≡ max c.loop-b.widest (max (widest ks c.b-item.result.guard) (widest ks c.b-item.result.body)) = omega (arith, m, o, u, v) in
    record {
      found = subst P (sym (mapped_more f xs c.loop-b.b-index c.b-item.result (g, e) lt c.b-item.is (judged_at ks c.b-item.result)))
          (c.in_ok-arms.ensures (map f (take c.loop-b.b-index xs)) g e (plain_may may) (part_may may) c.loop-b.invariant.found guard body);
      left = sym (front ∙ first_past (g.fault (plain_may may)) (e.fault (part_may may) ∷ rest ∷ []) guard.none ∙ first_past (e.fault (part_may may)) (rest ∷ []) body.none ∙ first_one rest) ∙ c.loop-b.invariant.left;
      width = most_left (widest_branch ks) xs c.loop-b.b-index c.b-item.result c.loop-b.widest c.max-widest.result (widest_arm ks xs) lt c.b-item.is c.loop-b.invariant.width next;
      few = omega (arith, m, o, c.loop-b.invariant.few, c.in_ok-guard.guard.few, c.in_ok-body.body.few);
    }

pub wide_members-loop-e-preserved : goal.wide_members-loop-e-preserved
wide_members-loop-e-preserved t c =
    let may : May = may_of c.args.may in
    let ks : Kinds = c.args.ks.now in
    let f : Expr → Judged = judged ks in
    let xs : List Expr = c.as_slice-e-items.result.now in
    let lt : c.loop-e.e-index < length xs = omega arith in
    let e : Expr = c.e-item.result in
    let member : IsFound (f e) may c.in_ok-member.member.found = c.in_ok-member.ensures.0 in
    let P : List Judged → Type 0 = λ js. HasMembers js c.in_ok-members.members in
    let m : c.max-widest.result ≡ max c.loop-e.widest c.in_ok-member.member.widest = search rules in
    let next : c.max-widest.result ≡ max c.loop-e.widest (widest ks e) = m ∙ ap (λ (k : ℕ). max c.loop-e.widest k) c.in_ok-member.ensures.1 in
    record {
      found = subst P (sym (mapped_more f xs c.loop-e.e-index e (f e) lt c.e-item.is refl))
          (c.in_ok-members.ensures (map f (take c.loop-e.e-index xs)) (f e) may c.loop-e.invariant.found member);
      left = members_left f xs c.loop-e.e-index e may lt c.e-item.is member.none ∙ c.loop-e.invariant.left;
      width = most_left (widest ks) xs c.loop-e.e-index e c.loop-e.widest c.max-widest.result (widest_member ks xs) lt c.e-item.is c.loop-e.invariant.width next;
      few = omega (arith, m, c.loop-e.invariant.few, c.in_ok-member.member.few);
    }
