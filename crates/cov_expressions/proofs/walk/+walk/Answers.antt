use Rattle.std.proofs.Common.{rules, ◌≡◌, ◌<◌, ◌≤◌, ◌+◌, ◌-◌, ◌*◌, ◌||◌, ◌++◌, max, length, take, drop, IsTrue, OnOk, ℕ, List, [], ◌∷◌, Some, sym, ap, subst, ◌∙◌, arith, not, ℤ, w32, to_z, of_z, to_z-of_z, false}
use Rattle.std.specs.Prelude.{◌≢◌, slice_get}
use Rattle.std.specs.Int.{div_ceil}
use Rattle.std.proofs.lemmas.List.{take_all}
use Rattle.cov_syntax.specs.declared.tree.Value.{Value}
use Rattle.cov_syntax.specs.declared.tree.Value.TheVariants as v
use Rattle.cov_syntax.specs.declared.tree.Expr.{Expr}
use Rattle.cov_syntax.specs.declared.tree.Branch.{Branch}
use Rattle.cov_syntax.specs.declared.tree.Op1.{Op1}
use Rattle.cov_syntax.specs.declared.tree.Op1.TheVariants as op1
use Rattle.cov_syntax.specs.declared.tree.Op2.{Op2}
use Rattle.cov_syntax.specs.declared.tree.Op2.TheVariants as op2
use Rattle.cov_syntax.specs.declared.tree.Node.{out-Node}
use Rattle.cov_syntax.specs.declared.tree.Node.TheOpen.{Node-F}
use Rattle.cov_syntax.specs.declared.tree.Node.TheVariants as n
use Rattle.cov_model.specs.declared.model.Model.{Model}
use Rattle.cov_model.specs.Flat.{depth}
use Rattle.cov_model.specs.Atoms.{operand, left, right, whole}
use Rattle.cov_model.specs.Meaning.{Meaning, allows, joined, meaning, prefixed}
use Rattle.cov_model.specs.Values as values
use Rattle.cov_ranges.specs.Ranges.{ListsAll, range_of}
use Rattle.cov_ranges.proofs.Listed.{lists_all}
use Rattle.cov_types.specs.Depths.{all_depth, all_branch_depth}
use Rattle.cov_readings.specs.Single.{HasOneChoice}
use Rattle.cov_readings.proofs.OneChoice.{one_choice}
use Rattle.cov_space.specs.Sets.{SpaceOf}
use Rattle.cov_space.proofs.Calls.{err_exit, err_call, leaves_behind, push_behind, more_trans}
use Rattle.cov_nodes.specs.declared.reading.Reading.{Reading}
use Rattle.cov_nodes.specs.Choices.{Choice, IsChunk, PutsFamily, is_logic, is_true_at, negated_choices, of_truth, ones}
use Rattle.cov_nodes.specs.Standing.{chunk}
use Rattle.cov_expressions.specs.declared.scope.Scope.{Scope}
use Rattle.cov_expressions.specs.Needs.{CanPut, IsList}
use Rattle.cov_expressions.specs.Parts.{PutsAll, any_choice, arm_choice, logic_choice, logic_for, made_choice}
use Rattle.cov_expressions.proofs.Tops.{top_is, depth_at, depth_some, meaning_at, member_deep, arm_deep, variable_there}
use Rattle.cov_expressions.proofs.Needed.{places_some, places_two, part_readable, operand_is_single, left_is_single, right_is_single, items_readable, arms_readable, can_more, can_all, ones_chunk, list_of, widest_some, IsMoved, can_moved, moved_readable}
use Rattle.cov_expressions.proofs.Meant.{IsSingle, single_is, not_meant, negated_meant, logic_meant, logic_among, logic_no_union, logic_no_member, temporal_one, temporal_two, compared_no_member, compared_meant, logic_for_is, operation_meant}
use Rattle.cov_expressions.proofs.Stack.{cut_back}
use Rattle.cov_expressions.proofs.Families.{family_at}
use Rattle.cov_expressions.proofs.Gathering.{has_one, one_put, one_same, join_leaves}
use Rattle.cov_expressions.proofs.Walked.{PutsTwo, put_two, ok_at, err_at, ok_same, ok_equal, can_chunk, first_more, first_all, any_meant, HasAll, chunks_stand, same_more, IsLonger, all_longer, next_ok, item_there, some_of, put_of, member_more, no_arms, three_more, branch_more, leaves_at}
use Rattle.cov_expressions.proofs.walk.+walk.Goals as goal

-- ---- put_tree

pub put_tree-put_variable-requires-clause-variable : goal.put_tree-put_variable-requires-clause-variable
put_tree-put_variable-requires-clause-variable t c =
    subst (λ (m : Model). c.in-Var.i < length m.vars) (sym c.model.ensures.value)
    (variable_there c.args.scope.now.m.now c.args.e.now c.in-Var.i c.requires.can.scoped.formed c.requires.readable.expression (top_is c.args.e.now (n.Var c.in-Var.i) (Node-F.Var c.in-Var.i) c.in-Var.is (n.rolls-Var c.in-Var.i)))

pub put_tree-put_defined-requires-clause-room : goal.put_tree-put_defined-requires-clause-room
put_tree-put_defined-requires-clause-room t c = omega (arith, places_some c.args.scope.now.m.now (depth c.args.e.now) (depth_some c.args.e.now), c.requires.can.room)

pub put_tree-put_one-requires : goal.put_tree-put_one-requires
put_tree-put_one-requires t c =
    let e : Expr = c.args.e.now in
    let a : Expr = c.get.result.now in
    let top : out-Node e.node ≡ Node-F.One c.in-One.op a =
    top_is e (n.One c.in-One.op c.in-One.a) (Node-F.One c.in-One.op c.in-One.a) c.in-One.is (n.rolls-One c.in-One.op c.in-One.a) ∙ ap (λ (z : Expr). Node-F.One c.in-One.op z) (sym c.get.ensures) in
    let deep : depth e ≡ 1 + depth a = depth_at e (Node-F.One c.in-One.op a) top in
    let fall : 8 * depth a + 7 < t = omega (arith, deep, c.decreases) in (
      fall,
      (
        subst (λ (k : ℕ). CanPut c.args.sp.now c.args.scope.now c.args.xs.now k) deep c.requires.can,
        (
          part_readable c.args.scope.now a e (operand e a c.in-One.op top whole) c.requires.readable,
          operand_is_single c.args.sp.now c.args.scope.now e a c.in-One.op c.requires.can.scoped c.requires.readable top,
        ),
      ),
    )

pub put_tree-put_two-requires : goal.put_tree-put_two-requires
put_tree-put_two-requires t c =
    let e : Expr = c.args.e.now in
    let a : Expr = c.get-in-Two.result.now in
    let b : Expr = c.get-in-Two-2.result.now in
    let op : Op2 = c.in-Two.op in
    let top : out-Node e.node ≡ Node-F.Two op a b =
    top_is e (n.Two op c.in-Two.a c.in-Two.b) (Node-F.Two op c.in-Two.a c.in-Two.b) c.in-Two.is (n.rolls-Two op c.in-Two.a c.in-Two.b)
    ∙ ap (λ (z : Expr). Node-F.Two op z c.in-Two.b) (sym c.get-in-Two.ensures) ∙ ap (λ (z : Expr). Node-F.Two op a z) (sym c.get-in-Two-2.ensures) in
    let deep : depth e ≡ 1 + max (depth a) (depth b) = depth_at e (Node-F.Two op a b) top in
    let fall : 8 * max (depth a) (depth b) + 7 < t = omega (arith, deep, c.decreases) in (
      fall,
      (
        subst (λ (k : ℕ). CanPut c.args.sp.now c.args.scope.now c.args.xs.now k) deep c.requires.can,
        (
          part_readable c.args.scope.now a e (left e a b op top whole) c.requires.readable,
          (
            part_readable c.args.scope.now b e (right e a b op top whole) c.requires.readable,
            (
              left_is_single c.args.sp.now c.args.scope.now e a b op c.requires.can.scoped c.requires.readable top,
              right_is_single c.args.sp.now c.args.scope.now e a b op c.requires.can.scoped c.requires.readable top,
            ),
          ),
        ),
      ),
    )

pub put_tree-put_members-requires : goal.put_tree-put_members-requires
put_tree-put_members-requires t c =
    let e : Expr = c.args.e.now in
    let es : List Expr = c.in-Set.items in
    let top : out-Node e.node ≡ Node-F.Set es = top_is e (n.Set es) (Node-F.Set es) c.in-Set.is (n.rolls-Set es) in
    let deep : depth e ≡ 1 + all_depth es = depth_at e (Node-F.Set es) top in
    let fall : 8 * all_depth es + 7 < t = omega (arith, deep, c.decreases) in
    (fall, (subst (λ (k : ℕ). CanPut c.args.sp.now c.args.scope.now c.args.xs.now k) deep c.requires.can, items_readable c.args.scope.now e es c.requires.readable top))

pub put_tree-put_branches-requires : goal.put_tree-put_branches-requires
put_tree-put_branches-requires t c =
    let e : Expr = c.args.e.now in
    let bs : List Branch = c.in-Case.branches in
    let top : out-Node e.node ≡ Node-F.Case bs = top_is e (n.Case bs) (Node-F.Case bs) c.in-Case.is (n.rolls-Case bs) in
    let deep : depth e ≡ 1 + all_branch_depth bs = depth_at e (Node-F.Case bs) top in
    let fall : 8 * all_branch_depth bs + 7 < t = omega (arith, deep, c.decreases) in
    (fall, (subst (λ (k : ℕ). CanPut c.args.sp.now c.args.scope.now c.args.xs.now k) deep c.requires.can, arms_readable c.args.sp.now c.args.scope.now e bs c.requires.can.scoped c.requires.readable top))

pub put_tree-returns-in-Lit-clause-ok : goal.put_tree-returns-in-Lit-clause-ok
put_tree-returns-in-Lit-clause-ok t c =
    let e : Expr = c.args.e.now in
    let x : Value = c.in-Lit.x in
    let top : out-Node e.node ≡ Node-F.Lit x = top_is e (n.Lit x) (Node-F.Lit x) c.in-Lit.is (n.rolls-Lit x) in
    ok_equal c.put_literal.result c.args.sp.now c.put_literal.new.sp c.args.scope.now.m.now c.args.scope.now.at c.args.xs.now (λ p y. values.same_value x y) (allows e) (ap (λ (m : Meaning). m.allows) (sym (meaning_at e (Node-F.Lit x) top)))
    (c.put_literal.ensures.ok c.args.scope.now.m.now c.args.scope.now.at)

pub put_tree-returns-in-Path-clause-ok : goal.put_tree-returns-in-Path-clause-ok
put_tree-returns-in-Path-clause-ok t c =
    let e : Expr = c.args.e.now in
    let top : out-Node e.node ≡ Node-F.Path c.in-Path.field-0 = top_is e (n.Path c.in-Path.field-0) (Node-F.Path c.in-Path.field-0) c.in-Path.is (n.rolls-Path c.in-Path.field-0) in
    ok_equal c.put_literal-in-Path.result c.args.sp.now c.put_literal-in-Path.new.sp c.args.scope.now.m.now c.args.scope.now.at c.args.xs.now (λ p y. values.same_value (v.Bool false) y) (allows e) (ap (λ (m : Meaning). m.allows) (sym (meaning_at e (Node-F.Path c.in-Path.field-0) top)))
    (c.put_literal-in-Path.ensures.ok c.args.scope.now.m.now c.args.scope.now.at)

abbrev among : ℤ → ℤ → Choice
among low high p y = values.within low high y

pub put_tree-returns-in-Range-clause-ok : goal.put_tree-returns-in-Range-clause-ok
put_tree-returns-in-Range-clause-ok t c =
    let e : Expr = c.args.e.now in
    let low : ℤ = to_z w32 (of_z w32 c.in-Range.low) in
    let high : ℤ = to_z w32 (of_z w32 c.in-Range.high) in
    let p : low ≡ c.in-Range.low = grind (arith, to_z-of_z) in
    let q : high ≡ c.in-Range.high = grind (arith, to_z-of_z) in
    let top : out-Node e.node ≡ Node-F.Range c.in-Range.low c.in-Range.high = top_is e (n.Range c.in-Range.low c.in-Range.high) (Node-F.Range c.in-Range.low c.in-Range.high) c.in-Range.is (n.rolls-Range c.in-Range.low c.in-Range.high) in
    ok_equal c.put_range.result c.args.sp.now c.put_range.new.sp c.args.scope.now.m.now c.args.scope.now.at c.args.xs.now (among low high) (allows e)
    (ap (λ (z : ℤ). among z high) p ∙ ap (λ (z : ℤ). among c.in-Range.low z) q ∙ ap (λ (m : Meaning). m.allows) (sym (meaning_at e (Node-F.Range c.in-Range.low c.in-Range.high) top)))
    (c.put_range.ensures.ok c.args.scope.now.m.now c.args.scope.now.at)

pub put_tree-returns-in-Set-clause-ok : goal.put_tree-returns-in-Set-clause-ok
put_tree-returns-in-Set-clause-ok t c =
    let e : Expr = c.args.e.now in
    let es : List Expr = c.in-Set.items in
    let top : out-Node e.node ≡ Node-F.Set es = top_is e (n.Set es) (Node-F.Set es) c.in-Set.is (n.rolls-Set es) in
    ok_equal c.put_members.result c.args.sp.now c.put_members.new.sp c.args.scope.now.m.now c.args.scope.now.at c.args.xs.now (any_choice es) (allows e) (any_meant es ∙ ap (λ (m : Meaning). m.allows) (sym (meaning_at e (Node-F.Set es) top))) c.put_members.ensures.ok

-- ---- put_chunks

pub put_chunks-put_tree-requires : goal.put_chunks-put_tree-requires
put_chunks-put_tree-requires t c =
    let fall : 8 * depth c.args.e.now < t = omega (arith, c.decreases) in
    let below : c.loop-k.k < div_ceil (length c.new-chunks.result.values.now) c.new-chunks.result.size = omega (arith, c.loop-k-test.true, c.count-k-end.ensures) in
    let lt : c.loop-k.k < div_ceil (length c.args.xs.now) c.new-chunks.result.size = subst (λ (zs : List Value). c.loop-k.k < div_ceil (length zs) c.new-chunks.result.size) c.new-chunks.ensures.values below in (
      fall,
      (
        can_chunk c.args.sp.now c.loop-k.sp c.args.scope.now c.args.xs.now c.chunk.result.now (depth c.args.e.now) c.loop-k.k c.new-chunks.result.size (allows c.args.e.now) c.requires.can c.loop-k.invariant c.new-chunks.ensures.size lt
            (c.chunk.ensures ∙ ap (λ (zs : List Value). chunk c.new-chunks.result.size zs c.loop-k.k) c.new-chunks.ensures.values),
        c.requires.readable,
      ),
    )

pub put_chunks-returns-in_err-put_tree-clause-err : goal.put_chunks-returns-in_err-put_tree-clause-err
put_chunks-returns-in_err-put_tree-clause-err t c =
    err_exit c.from_residual.result c.in_err-put_tree.field-0.0 _ (search rules)
    (leaves_behind c.args.sp.now c.loop-k.sp c.put_tree.new.sp c.loop-k.invariant.sets c.in_err-put_tree.field-0.0 c.loop-k.invariant.is c.in_err-put_tree.ensures.err)

pub put_chunks-loop-k-preserved : goal.put_chunks-loop-k-preserved
put_chunks-loop-k-preserved t c =
    first_more c.args.sp.now c.loop-k.sp c.put_tree.new.sp c.args.scope.now.m.now c.args.scope.now.at c.new-chunks.result.size c.args.xs.now c.chunk.result.now c.loop-k.k (allows c.args.e.now) c.loop-k.invariant c.in_ok-put_tree.ensures.ok
    (c.chunk.ensures ∙ ap (λ (zs : List Value). chunk c.new-chunks.result.size zs c.loop-k.k) c.new-chunks.ensures.values)

pub put_chunks-returns-clause-ok : goal.put_chunks-returns-clause-ok
put_chunks-returns-clause-ok t c =
    let end : c.loop-k.k ≡ div_ceil (length c.new-chunks.result.values.now) c.new-chunks.result.size = omega (arith, c.loop-k-test.false, c.loop-k.auto.k-end, c.count-k-end.ensures) in
    first_all c.args.sp.now c.loop-k.sp c.args.scope.now.m.now c.args.scope.now.at c.new-chunks.result.size c.args.xs.now c.loop-k.k (allows c.args.e.now) c.loop-k.invariant c.new-chunks.ensures.size
    (end ∙ ap (λ (zs : List Value). div_ceil (length zs) c.new-chunks.result.size) c.new-chunks.ensures.values)

-- ---- put_logical

pub put_logical-put_tree-requires-2 : goal.put_logical-put_tree-requires-2
put_logical-put_tree-requires-2 t c =
    let s1 : SpaceOf = c.put_tree.new.sp in
    let q = c.in_ok-put_tree.ensures.ok in
    let fall : 8 * depth c.args.b.now < t = omega (arith, c.decreases) in
    let less : depth c.args.b.now + 1 ≤ 1 + max (depth c.args.a.now) (depth c.args.b.now) = omega arith in (
      fall,
      (
        can_more c.args.sp.now s1 c.args.scope.now c.args.xs.now ones (depth c.args.b.now) (1 + max (depth c.args.a.now) (depth c.args.b.now)) (q.set ∷ []) c.requires.can q.puts.is less (omega arith) (ones_chunk c.args.sp.now.levels)
            (omega (arith, widest_some c.args.scope.now.m.now)),
        c.requires.right,
      ),
    )

pub put_logical-returns-in_err-put_tree-2-clause-err : goal.put_logical-returns-in_err-put_tree-2-clause-err
put_logical-returns-in_err-put_tree-2-clause-err t c =
    let q = c.in_ok-put_tree.ensures.ok in
    err_exit c.from_residual-in_err-put_tree-2.result c.in_err-put_tree-2.field-0.0 _ (search rules)
    (leaves_behind c.args.sp.now c.put_tree.new.sp c.put_tree-2.new.sp (q.set ∷ []) c.in_err-put_tree-2.field-0.0 q.puts.is c.in_err-put_tree-2.ensures.err)

pub put_logical-returns-clause-ok : goal.put_logical-returns-clause-ok
put_logical-returns-clause-ok t c =
    let m : Model = c.args.scope.now.m.now in
    let at : Reading = c.args.scope.now.at in
    let f : Choice = allows c.args.a.now in
    let g : Choice = allows c.args.b.now in
    let w : PutsTwo c.sets-n.result c.args.sp.now c.put_tree-2.new.sp m at ones ones (allows c.args.a.now) (allows c.args.b.now) =
    put_two c.sets-n.result c.args.sp.now c.put_tree.new.sp c.put_tree-2.new.sp m at ones ones (allows c.args.a.now) (allows c.args.b.now) (sym c.sets-n.ensures.count) c.in_ok-put_tree.ensures.ok c.in_ok-put_tree-2.ensures.ok in
    ok_at c.finish_logic.result c.sets-n.result c.args.sp.now c.put_tree-2.new.sp c.finish_logic.new.sp m at c.args.xs.now (logic_choice c.args.op (allows c.args.a.now) (allows c.args.b.now)) w.cut
    (c.finish_logic.ensures.ok m at (allows c.args.a.now) (allows c.args.b.now) w.first w.second)

pub put_logical-returns-clause-err : goal.put_logical-returns-clause-err
put_logical-returns-clause-err t c =
    let m : Model = c.args.scope.now.m.now in
    let at : Reading = c.args.scope.now.at in
    let w : PutsTwo c.sets-n.result c.args.sp.now c.put_tree-2.new.sp m at ones ones (allows c.args.a.now) (allows c.args.b.now) =
    put_two c.sets-n.result c.args.sp.now c.put_tree.new.sp c.put_tree-2.new.sp m at ones ones (allows c.args.a.now) (allows c.args.b.now) (sym c.sets-n.ensures.count) c.in_ok-put_tree.ensures.ok c.in_ok-put_tree-2.ensures.ok in
    err_at c.finish_logic.result c.sets-n.result c.args.sp.now c.put_tree-2.new.sp c.finish_logic.new.sp w.cut c.finish_logic.ensures.err

-- ---- put_two

pub put_two-put_tree-requires-in-Union : goal.put_two-put_tree-requires-in-Union
put_two-put_tree-requires-in-Union t c =
    let q = c.in_ok-put_tree-in-Union.ensures.ok in
    let fall : 8 * depth c.args.b.now < t = omega (arith, c.decreases) in
    let less : depth c.args.b.now + 1 ≤ 1 + max (depth c.args.a.now) (depth c.args.b.now) = omega arith in (
      fall,
      (
        can_more c.args.sp.now c.put_tree.new.sp c.args.scope.now c.args.xs.now c.args.xs.now (depth c.args.b.now) (1 + max (depth c.args.a.now) (depth c.args.b.now)) (q.set ∷ []) c.requires.can q.puts.is less (omega arith) c.requires.can.chunk c.requires.can.narrow,
        c.requires.right,
      ),
    )

pub put_two-returns-in_err-put_tree-in-Union-2-clause-err : goal.put_two-returns-in_err-put_tree-in-Union-2-clause-err
put_two-returns-in_err-put_tree-in-Union-2-clause-err t c =
    let q = c.in_ok-put_tree-in-Union.ensures.ok in
    err_exit c.from_residual-in_err-put_tree-in-Union-2.result c.in_err-put_tree-in-Union-2.field-0.0 _ (search rules)
    (leaves_behind c.args.sp.now c.put_tree.new.sp c.put_tree-in-Union.new.sp (q.set ∷ []) c.in_err-put_tree-in-Union-2.field-0.0 q.puts.is c.in_err-put_tree-in-Union-2.ensures.err)

pub put_two-returns-in-And-clause-ok : goal.put_two-returns-in-And-clause-ok
put_two-returns-in-And-clause-ok t c =
    let m : Model = c.args.scope.now.m.now in
    let w = c.requires.can.scoped.formed in
    let logic : IsTrue (is_logic c.args.op) = logic_among c.args.op c.in-And.is in
    let f : HasOneChoice m c.args.a.now = one_choice m w c.args.a.now c.requires.left.expression (c.requires.left_single (logic_no_union c.args.op logic)) in
    let g : HasOneChoice m c.args.b.now = one_choice m w c.args.b.now c.requires.right.expression (c.requires.right_single (logic_no_union c.args.op logic) (logic_no_member c.args.op logic)) in
    ok_same c.put_logical.result c.args.sp.now c.put_logical.new.sp m c.args.scope.now.at c.args.xs.now (logic_choice c.args.op (allows c.args.a.now) (allows c.args.b.now)) (joined values.whole c.args.op (meaning c.args.a.now) (meaning c.args.b.now)).allows
    (logic_meant m c.args.scope.now.at c.args.op c.args.a.now c.args.b.now logic f g) c.put_logical.ensures.ok

pub put_two-returns-in_ok-put_tree-in-Union-2-clause-ok : goal.put_two-returns-in_ok-put_tree-in-Union-2-clause-ok
put_two-returns-in_ok-put_tree-in-Union-2-clause-ok t c =
    let m : Model = c.args.scope.now.m.now in
    let at : Reading = c.args.scope.now.at in
    let xs : List Value = c.args.xs.now in
    let w : PutsTwo c.sets-n.result c.args.sp.now c.put_tree-in-Union.new.sp m at c.args.xs.now c.args.xs.now (allows c.args.a.now) (allows c.args.b.now) =
    put_two c.sets-n.result c.args.sp.now c.put_tree.new.sp c.put_tree-in-Union.new.sp m at xs xs (allows c.args.a.now) (allows c.args.b.now) (sym c.sets-n.ensures.count) c.in_ok-put_tree-in-Union.ensures.ok c.in_ok-put_tree-in-Union-2.ensures.ok in
    ok_equal c.finish_either.result c.args.sp.now c.finish_either.new.sp m at xs (joined values.whole op2.Union (meaning c.args.a.now) (meaning c.args.b.now)).allows (joined values.whole c.args.op (meaning c.args.a.now) (meaning c.args.b.now)).allows
    (ap (λ (o : Op2). (joined values.whole o (meaning c.args.a.now) (meaning c.args.b.now)).allows) (sym c.in-Union.is))
    (ok_at c.finish_either.result c.sets-n.result c.args.sp.now c.put_tree-in-Union.new.sp c.finish_either.new.sp m at xs (λ p z. allows c.args.a.now p z || allows c.args.b.now p z) w.cut
    (c.finish_either.ensures.ok m at xs (allows c.args.a.now) (allows c.args.b.now) w.first w.second))

pub put_two-returns-in_ok-put_tree-in-Union-2-clause-err : goal.put_two-returns-in_ok-put_tree-in-Union-2-clause-err
put_two-returns-in_ok-put_tree-in-Union-2-clause-err t c =
    let m : Model = c.args.scope.now.m.now in
    let at : Reading = c.args.scope.now.at in
    let xs : List Value = c.args.xs.now in
    let w : PutsTwo c.sets-n.result c.args.sp.now c.put_tree-in-Union.new.sp m at c.args.xs.now c.args.xs.now (allows c.args.a.now) (allows c.args.b.now) =
    put_two c.sets-n.result c.args.sp.now c.put_tree.new.sp c.put_tree-in-Union.new.sp m at xs xs (allows c.args.a.now) (allows c.args.b.now) (sym c.sets-n.ensures.count) c.in_ok-put_tree-in-Union.ensures.ok c.in_ok-put_tree-in-Union-2.ensures.ok in
    err_at c.finish_either.result c.sets-n.result c.args.sp.now c.put_tree-in-Union.new.sp c.finish_either.new.sp w.cut c.finish_either.ensures.err

pub put_two-returns-in-Au-clause-ok : goal.put_two-returns-in-Au-clause-ok
put_two-returns-in-Au-clause-ok t c =
    ok_equal c.put_literal.result c.args.sp.now c.put_literal.new.sp c.args.scope.now.m.now c.args.scope.now.at c.args.xs.now (λ p y. values.same_value (v.Bool false) y) (joined values.whole c.args.op (meaning c.args.a.now) (meaning c.args.b.now)).allows
    (temporal_two c.args.op (meaning c.args.a.now) (meaning c.args.b.now) c.in-Au.is) (c.put_literal.ensures.ok c.args.scope.now.m.now c.args.scope.now.at)

-- ---- put_one

pub put_one-put_chunks-requires : goal.put_one-put_chunks-requires
put_one-put_chunks-requires t c =
    let old : SpaceOf = c.args.sp.now in
    let scope : Scope = c.args.scope.now in
    let a : Expr = c.args.a.now in
    let fall : 8 * depth a + 1 < t = omega (arith, c.decreases) in
    let list : IsList scope.m.now c.as_slice.result.now = list_of old scope a c.as_slice.result.now c.requires.can.scoped c.requires.readable (c.as_slice.ensures ∙ c.in_ok-values-in-Neg.ensures.ok) in
    (fall, (can_all old old scope c.args.xs.now c.as_slice.result.now (depth a) (1 + depth a) [] c.requires.can (same_more old) (omega arith) (omega arith) list, c.requires.readable))

pub put_one-finish_negation-requires : goal.put_one-finish_negation-requires
put_one-finish_negation-requires t c =
    let old : SpaceOf = c.args.sp.now in
    let s : SpaceOf = c.put_chunks.new.sp in
    let scope : Scope = c.args.scope.now in
    let a : Expr = c.args.a.now in
    let m : Model = c.args.scope.now.m.now in
    let q : PutsAll old s m scope.at c.as_slice.result.now (allows a) = c.in_ok-put_chunks-in-Neg.ensures.ok in
    let list : IsList scope.m.now c.as_slice.result.now = list_of old scope a c.as_slice.result.now c.requires.can.scoped c.requires.readable (c.as_slice.ensures ∙ c.in_ok-values-in-Neg.ensures.ok) in
    let h : HasAll c.sets-n.result old s m scope.at c.new-operand.result.first c.new-operand.result.size c.new-operand.result.values.now (allows a) =
    chunks_stand c.sets-n.result old s s m scope.at c.new-operand.result.first c.new-operand.result.size c.as_slice.result.now c.new-operand.result.values.now (allows a) [] (sym c.sets-n.ensures.count) q list (same_more s)
    c.new-operand.ensures.first c.new-operand.ensures.size (c.new-operand.ensures.values ∙ c.as_slice-in-Neg.ensures ∙ sym c.as_slice.ensures) in
    let l : IsLonger old s (length c.as_slice.result.now) = all_longer old s m scope.at c.as_slice.result.now (allows a) q in
    let two : 2 ≤ 1 + depth a = omega (arith, depth_some a) in
    record {
      n = omega (arith, l.least, c.sets-n.ensures.count);
      operand = h.sets;
      chunk = subst (λ k. IsChunk k c.args.xs.now) (sym l.levels) c.requires.can.chunk;
      room = omega (arith, l.most, l.places, list.narrow, places_two m (1 + depth a) two, c.requires.can.room);
    }

pub put_one-put_tree-requires-in-Next : goal.put_one-put_tree-requires-in-Next
put_one-put_tree-requires-in-Next t c =
    let scope : Scope = c.args.scope.now in
    let moved : IsMoved scope c.moved.result = record { m = c.moved.ensures.m; plan = c.moved.ensures.plan; at = c.moved.ensures.at; here = c.moved.ensures.here; there = c.moved.ensures.there } in
    let fall : 8 * depth c.args.a.now < t = omega (arith, c.decreases) in
    (fall, (can_moved c.args.sp.now scope c.moved.result c.args.xs.now (depth c.args.a.now) moved c.requires.can, moved_readable scope c.moved.result c.args.a.now moved c.requires.readable))

pub put_one-returns-in-Next-clause-ok : goal.put_one-returns-in-Next-clause-ok
put_one-returns-in-Next-clause-ok t c =
    let m : Model = c.args.scope.now.m.now in
    let at : Reading = c.args.scope.now.at in
    let a : Expr = c.args.a.now in
    let res = c.put_tree-in-Next.result in
    let old : SpaceOf = c.args.sp.now in
    let new : SpaceOf = c.put_tree-in-Next.new.sp in
    let one : HasOneChoice m a = one_choice m c.requires.can.scoped.formed a c.requires.readable.expression c.requires.single in
    ok_equal c.put_tree-in-Next.result old new m at c.args.xs.now (prefixed values.whole op1.Next (meaning a)).allows (prefixed values.whole c.args.op (meaning a)).allows (ap (λ (o : Op1). (prefixed values.whole o (meaning a)).allows) (sym c.in-Next.is))
    (next_ok c.put_tree-in-Next.result old new m at c.moved.result.at a c.args.xs.now one c.moved.ensures.at
    (subst (λ (z : Model). OnOk c.put_tree-in-Next.result (PutsFamily old new z c.moved.result.at c.args.xs.now (allows a))) c.moved.ensures.m c.put_tree-in-Next.ensures.ok))

pub put_one-returns-in_ok-put_tree-in-Not-clause-ok : goal.put_one-returns-in_ok-put_tree-in-Not-clause-ok
put_one-returns-in_ok-put_tree-in-Not-clause-ok t c =
    let m : Model = c.args.scope.now.m.now in
    let at : Reading = c.args.scope.now.at in
    let a : Expr = c.args.a.now in
    let old : SpaceOf = c.args.sp.now in
    let s : SpaceOf = c.put_tree.new.sp in
    let q : PutsFamily old s m at ones (allows a) = c.in_ok-put_tree-in-Not.ensures.ok in
    let count : length old.sets ≡ c.sets-n.result = sym c.sets-n.ensures.count in
    let one : HasOneChoice m a = one_choice m c.requires.can.scoped.formed a c.requires.readable.expression c.requires.single in
    ok_equal c.finish_not.result old c.finish_not.new.sp m at c.args.xs.now (prefixed values.whole op1.Not (meaning a)).allows (prefixed values.whole c.args.op (meaning a)).allows (ap (λ (o : Op1). (prefixed values.whole o (meaning a)).allows) (sym c.in-Not.is))
    (ok_same c.finish_not.result old c.finish_not.new.sp m at c.args.xs.now (of_truth (λ p. not (is_true_at (allows a) p))) (prefixed values.whole op1.Not (meaning a)).allows (not_meant m at a one)
    (ok_at c.finish_not.result c.sets-n.result old s c.finish_not.new.sp m at c.args.xs.now (of_truth (λ p. not (is_true_at (allows a) p))) (cut_back c.sets-n.result old s (q.set ∷ []) q.puts.is count)
    (c.finish_not.ensures.ok m at (allows a) (family_at old s m at ones (allows a) c.sets-n.result count q))))

pub put_one-returns-in_ok-put_tree-in-Not-clause-err : goal.put_one-returns-in_ok-put_tree-in-Not-clause-err
put_one-returns-in_ok-put_tree-in-Not-clause-err t c =
    let old : SpaceOf = c.args.sp.now in
    let s : SpaceOf = c.put_tree.new.sp in
    let q : PutsFamily old s c.args.scope.now.m.now c.args.scope.now.at ones (allows c.args.a.now) = c.in_ok-put_tree-in-Not.ensures.ok in
    err_at c.finish_not.result c.sets-n.result old s c.finish_not.new.sp (cut_back c.sets-n.result old s (q.set ∷ []) q.puts.is (sym c.sets-n.ensures.count)) c.finish_not.ensures.err

pub put_one-returns-in_ok-put_chunks-in-Neg-clause-ok : goal.put_one-returns-in_ok-put_chunks-in-Neg-clause-ok
put_one-returns-in_ok-put_chunks-in-Neg-clause-ok t c =
    let old : SpaceOf = c.args.sp.now in
    let s : SpaceOf = c.put_chunks.new.sp in
    let scope : Scope = c.args.scope.now in
    let a : Expr = c.args.a.now in
    let m : Model = c.args.scope.now.m.now in
    let at : Reading = c.args.scope.now.at in
    let vs : List Value = c.new-operand.result.values.now in
    let q : PutsAll old s m scope.at c.as_slice.result.now (allows a) = c.in_ok-put_chunks-in-Neg.ensures.ok in
    let list : IsList scope.m.now c.as_slice.result.now = list_of old scope a c.as_slice.result.now c.requires.can.scoped c.requires.readable (c.as_slice.ensures ∙ c.in_ok-values-in-Neg.ensures.ok) in
    let all : vs ≡ range_of m a = c.new-operand.ensures.values ∙ c.as_slice-in-Neg.ensures ∙ c.in_ok-values-in-Neg.ensures.ok in
    let h : HasAll c.sets-n.result old s m scope.at c.new-operand.result.first c.new-operand.result.size c.new-operand.result.values.now (allows a) =
    chunks_stand c.sets-n.result old s s m scope.at c.new-operand.result.first c.new-operand.result.size c.as_slice.result.now c.new-operand.result.values.now (allows a) [] (sym c.sets-n.ensures.count) q list (same_more s)
    c.new-operand.ensures.first c.new-operand.ensures.size (c.new-operand.ensures.values ∙ c.as_slice-in-Neg.ensures ∙ sym c.as_slice.ensures) in
    let single : IsSingle m a vs = subst (λ (xs : List Value). IsSingle m a xs) (sym all) (single_is m a c.requires.can.scoped.formed c.requires.readable.expression c.requires.single) in
    ok_equal c.finish_negation.result old c.finish_negation.new.sp m at c.args.xs.now (prefixed values.whole op1.Neg (meaning a)).allows (prefixed values.whole c.args.op (meaning a)).allows (ap (λ (o : Op1). (prefixed values.whole o (meaning a)).allows) (sym c.in-Neg.is))
    (ok_same c.finish_negation.result old c.finish_negation.new.sp m at c.args.xs.now (negated_choices vs (allows a)) (prefixed values.whole op1.Neg (meaning a)).allows (negated_meant m at a vs single)
    (ok_at c.finish_negation.result c.sets-n.result old s c.finish_negation.new.sp m at c.args.xs.now (negated_choices vs (allows a)) h.cut (c.finish_negation.ensures.ok m at (allows a) h.families)))

pub put_one-returns-in_ok-put_chunks-in-Neg-clause-err : goal.put_one-returns-in_ok-put_chunks-in-Neg-clause-err
put_one-returns-in_ok-put_chunks-in-Neg-clause-err t c =
    let old : SpaceOf = c.args.sp.now in
    let s : SpaceOf = c.put_chunks.new.sp in
    let q : PutsAll old s c.args.scope.now.m.now c.args.scope.now.at c.as_slice.result.now (allows c.args.a.now) = c.in_ok-put_chunks-in-Neg.ensures.ok in
    err_at c.finish_negation.result c.sets-n.result old s c.finish_negation.new.sp (cut_back c.sets-n.result old s q.sets q.is (sym c.sets-n.ensures.count)) c.finish_negation.ensures.err

pub put_one-returns-in_default : goal.put_one-returns-in_default
put_one-returns-in_default t c =
    let old : SpaceOf = c.args.sp.now in
    record {
      ok = ok_equal c.put_literal.result old c.put_literal.new.sp c.args.scope.now.m.now c.args.scope.now.at c.args.xs.now (λ p y. values.same_value (v.Bool false) y) (prefixed values.whole c.args.op (meaning c.args.a.now)).allows
          (temporal_one c.args.op (meaning c.args.a.now) c.in_default.not-Not c.in_default.not-Neg c.in_default.not-Next) (c.put_literal.ensures.ok c.args.scope.now.m.now c.args.scope.now.at);
      err = err_call c.put_literal.result old old c.put_literal.new.sp [] (same_more old) c.put_literal.ensures.err;
    }

-- ---- put_operation

pub put_operation-returns-in-Some-clause-ok : goal.put_operation-returns-in-Some-clause-ok
put_operation-returns-in-Some-clause-ok t c =
    let m : Model = c.args.scope.now.m.now in
    let a : Expr = c.args.a.now in
    let b : Expr = c.args.b.now in
    let q : Op2 = c.in-Some.op in
    let xs : List Value = c.as_slice.result.now in
    let ys : List Value = c.as_slice-2.result.now in
    let formed = c.requires.can.scoped.formed in
    let is : logic_for c.args.op xs ys ≡ Some q = sym c.in-Some.ensures in
    let f : IsSingle m a xs = subst (λ (zs : List Value). IsSingle m a zs) (sym (c.as_slice.ensures ∙ c.in_ok-left.ensures.ok)) (single_is m a formed c.requires.left.expression c.requires.left_single) in
    let g : IsSingle m b ys = subst (λ (zs : List Value). IsSingle m b zs) (sym (c.as_slice-2.ensures ∙ c.in_ok-right.ensures.ok)) (single_is m b formed c.requires.right.expression (c.requires.right_single (compared_no_member c.args.op q xs ys is))) in
    ok_same c.put_logical.result c.args.sp.now c.put_logical.new.sp m c.args.scope.now.at c.args.xs.now (logic_choice q (allows a) (allows b)) (joined values.whole c.args.op (meaning a) (meaning b)).allows
    (compared_meant m c.args.scope.now.at c.args.op q a b xs ys (logic_for_is c.args.op q xs ys is) f g) c.put_logical.ensures.ok

pub put_operation-put_chunks-requires : goal.put_operation-put_chunks-requires
put_operation-put_chunks-requires t c =
    let old : SpaceOf = c.args.sp.now in
    let scope : Scope = c.args.scope.now in
    let a : Expr = c.args.a.now in
    let d : ℕ = 1 + max (depth c.args.a.now) (depth c.args.b.now) in
    let fall : 8 * depth a + 1 < t = omega (arith, c.decreases) in
    let less : depth c.args.a.now + 1 ≤ 1 + max (depth c.args.a.now) (depth c.args.b.now) = omega arith in
    let list : IsList scope.m.now c.as_slice-in-None.result.now = list_of old scope a c.as_slice-in-None.result.now c.requires.can.scoped c.requires.left (c.as_slice-in-None.ensures ∙ c.in_ok-left.ensures.ok) in
    (fall, (can_all old old scope c.args.xs.now c.as_slice-in-None.result.now (depth a) d [] c.requires.can (same_more old) less (omega arith) list, c.requires.left))

pub put_operation-put_chunks-requires-in-None : goal.put_operation-put_chunks-requires-in-None
put_operation-put_chunks-requires-in-None t c =
    let old : SpaceOf = c.args.sp.now in
    let s : SpaceOf = c.put_chunks.new.sp in
    let scope : Scope = c.args.scope.now in
    let b : Expr = c.args.b.now in
    let xs : List Value = c.as_slice-in-None.result.now in
    let ys : List Value = c.as_slice-in-None-2.result.now in
    let d : ℕ = 1 + max (depth c.args.a.now) (depth c.args.b.now) in
    let fall : 8 * depth b + 1 < t = omega (arith, c.decreases) in
    let less : depth c.args.b.now + 1 ≤ 1 + max (depth c.args.a.now) (depth c.args.b.now) = omega arith in
    let q : PutsAll old s scope.m.now scope.at xs (allows c.args.a.now) = c.in_ok-put_chunks-in-None.ensures.ok in
    let left : IsList scope.m.now xs = list_of old scope c.args.a.now xs c.requires.can.scoped c.requires.left (c.as_slice-in-None.ensures ∙ c.in_ok-left.ensures.ok) in
    let right : IsList scope.m.now ys = list_of old scope b ys c.requires.can.scoped c.requires.right (c.as_slice-in-None-2.ensures ∙ c.in_ok-right.ensures.ok) in
    (fall, (can_all old s scope c.args.xs.now ys (depth b) d q.sets c.requires.can q.is less (omega (arith, q.few, left.narrow)) right, c.requires.right))

pub put_operation-returns-in_err-put_chunks-in-None-2-clause-err : goal.put_operation-returns-in_err-put_chunks-in-None-2-clause-err
put_operation-returns-in_err-put_chunks-in-None-2-clause-err t c =
    let old : SpaceOf = c.args.sp.now in
    let s : SpaceOf = c.put_chunks.new.sp in
    let q : PutsAll old s c.args.scope.now.m.now c.args.scope.now.at c.as_slice-in-None.result.now (allows c.args.a.now) = c.in_ok-put_chunks-in-None.ensures.ok in
    err_exit c.from_residual-in_err-put_chunks-in-None-2.result c.in_err-put_chunks-in-None-2.field-0.0 _ (search rules)
    (leaves_behind old s c.put_chunks-in-None.new.sp q.sets c.in_err-put_chunks-in-None-2.field-0.0 q.is c.in_err-put_chunks-in-None-2.ensures.err)

pub put_operation-finish_operation-requires : goal.put_operation-finish_operation-requires
put_operation-finish_operation-requires t c =
    let old : SpaceOf = c.args.sp.now in
    let s : SpaceOf = c.put_chunks.new.sp in
    let new : SpaceOf = c.put_chunks-in-None.new.sp in
    let scope : Scope = c.args.scope.now in
    let m : Model = c.args.scope.now.m.now in
    let at : Reading = c.args.scope.now.at in
    let xs : List Value = c.as_slice-in-None.result.now in
    let ys : List Value = c.as_slice-in-None-2.result.now in
    let p : PutsAll old s m at xs (allows c.args.a.now) = c.in_ok-put_chunks-in-None.ensures.ok in
    let q : PutsAll s new m at ys (allows c.args.b.now) = c.in_ok-put_chunks-in-None-2.ensures.ok in
    let left : IsList m xs = list_of old scope c.args.a.now xs c.requires.can.scoped c.requires.left (c.as_slice-in-None.ensures ∙ c.in_ok-left.ensures.ok) in
    let right : IsList m ys = list_of old scope c.args.b.now ys c.requires.can.scoped c.requires.right (c.as_slice-in-None-2.ensures ∙ c.in_ok-right.ensures.ok) in
    let a : HasAll c.sets-n.result old new m at c.new-left.result.first c.new-left.result.size c.new-left.result.values.now (allows c.args.a.now) =
    chunks_stand c.sets-n.result old s new m at c.new-left.result.first c.new-left.result.size xs c.new-left.result.values.now (allows c.args.a.now) q.sets (sym c.sets-n.ensures.count) p left q.is
    c.new-left.ensures.first c.new-left.ensures.size (c.new-left.ensures.values ∙ c.as_slice-in-None-3.ensures ∙ sym c.as_slice-in-None.ensures) in
    let b : HasAll c.sets-middle.result s new m at c.new-right.result.first c.new-right.result.size c.new-right.result.values.now (allows c.args.b.now) =
    chunks_stand c.sets-middle.result s new new m at c.new-right.result.first c.new-right.result.size ys c.new-right.result.values.now (allows c.args.b.now) [] (sym c.sets-middle.ensures.count) q right (same_more new)
    c.new-right.ensures.first c.new-right.ensures.size (c.new-right.ensures.values ∙ c.as_slice-in-None-4.ensures ∙ sym c.as_slice-in-None-2.ensures) in
    let k : IsLonger old s (length xs) = all_longer old s m at xs (allows c.args.a.now) p in
    let l : IsLonger s new (length ys) = all_longer s new m at ys (allows c.args.b.now) q in
    let long : length c.new-right.result.values.now ≡ length ys = ap length (c.new-right.ensures.values ∙ c.as_slice-in-None-4.ensures ∙ sym c.as_slice-in-None-2.ensures) in
    let two : 2 ≤ 1 + max (depth c.args.a.now) (depth c.args.b.now) = omega (arith, depth_some c.args.a.now) in
    record {
      op = c.requires.op;
      n = omega (arith, k.least, l.least, c.sets-n.ensures.count);
      left = a.sets;
      right = b.sets;
      chunk = subst (λ z. IsChunk z c.args.xs.now) (sym (l.levels ∙ k.levels)) c.requires.can.chunk;
      room = omega (arith, k.most, l.most, k.places, l.places, left.narrow, right.narrow, long, c.requires.can.narrow, places_two m (1 + max (depth c.args.a.now) (depth c.args.b.now)) two, c.requires.can.room);
    }

pub put_operation-returns-clause-ok : goal.put_operation-returns-clause-ok
put_operation-returns-clause-ok t c =
    let old : SpaceOf = c.args.sp.now in
    let s : SpaceOf = c.put_chunks.new.sp in
    let new : SpaceOf = c.put_chunks-in-None.new.sp in
    let scope : Scope = c.args.scope.now in
    let m : Model = c.args.scope.now.m.now in
    let at : Reading = c.args.scope.now.at in
    let xs : List Value = c.as_slice-in-None.result.now in
    let ys : List Value = c.as_slice-in-None-2.result.now in
    let vs : List Value = c.new-left.result.values.now in
    let ws : List Value = c.new-right.result.values.now in
    let formed = c.requires.can.scoped.formed in
    let p : PutsAll old s m at xs (allows c.args.a.now) = c.in_ok-put_chunks-in-None.ensures.ok in
    let q : PutsAll s new m at ys (allows c.args.b.now) = c.in_ok-put_chunks-in-None-2.ensures.ok in
    let left : IsList m xs = list_of old scope c.args.a.now xs c.requires.can.scoped c.requires.left (c.as_slice-in-None.ensures ∙ c.in_ok-left.ensures.ok) in
    let right : IsList m ys = list_of old scope c.args.b.now ys c.requires.can.scoped c.requires.right (c.as_slice-in-None-2.ensures ∙ c.in_ok-right.ensures.ok) in
    let a : HasAll c.sets-n.result old new m at c.new-left.result.first c.new-left.result.size c.new-left.result.values.now (allows c.args.a.now) =
    chunks_stand c.sets-n.result old s new m at c.new-left.result.first c.new-left.result.size xs c.new-left.result.values.now (allows c.args.a.now) q.sets (sym c.sets-n.ensures.count) p left q.is
    c.new-left.ensures.first c.new-left.ensures.size (c.new-left.ensures.values ∙ c.as_slice-in-None-3.ensures ∙ sym c.as_slice-in-None.ensures) in
    let b : HasAll c.sets-middle.result s new m at c.new-right.result.first c.new-right.result.size c.new-right.result.values.now (allows c.args.b.now) =
    chunks_stand c.sets-middle.result s new new m at c.new-right.result.first c.new-right.result.size ys c.new-right.result.values.now (allows c.args.b.now) [] (sym c.sets-middle.ensures.count) q right (same_more new)
    c.new-right.ensures.first c.new-right.ensures.size (c.new-right.ensures.values ∙ c.as_slice-in-None-4.ensures ∙ sym c.as_slice-in-None-2.ensures) in
    let f : IsSingle m c.args.a.now vs = subst (λ (zs : List Value). IsSingle m c.args.a.now zs) (sym (c.new-left.ensures.values ∙ c.as_slice-in-None-3.ensures ∙ c.in_ok-left.ensures.ok)) (single_is m c.args.a.now formed c.requires.left.expression c.requires.left_single) in
    let whole_right : ws ≡ range_of m c.args.b.now = c.new-right.ensures.values ∙ c.as_slice-in-None-4.ensures ∙ c.in_ok-right.ensures.ok in
    let g = λ (ne : c.args.op ≢ op2.Member). subst (λ (zs : List Value). IsSingle m c.args.b.now zs) (sym whole_right) (single_is m c.args.b.now formed c.requires.right.expression (c.requires.right_single ne)) in
    let all : ListsAll m c.args.b.now ws = subst (λ (zs : List Value). ListsAll m c.args.b.now zs) (sym whole_right) (lists_all m formed c.args.b.now c.requires.right.expression) in
    ok_same c.finish_operation.result old c.finish_operation.new.sp m at c.args.xs.now (made_choice c.args.op vs ws (allows c.args.a.now) (allows c.args.b.now)) (joined values.whole c.args.op (meaning c.args.a.now) (meaning c.args.b.now)).allows
    (operation_meant m at c.args.op c.args.a.now c.args.b.now vs ws c.requires.op f g all)
    (ok_at c.finish_operation.result c.sets-n.result old new c.finish_operation.new.sp m at c.args.xs.now (made_choice c.args.op vs ws (allows c.args.a.now) (allows c.args.b.now)) a.cut
    (c.finish_operation.ensures.ok m at (allows c.args.a.now) (allows c.args.b.now) a.families b.families))

pub put_operation-returns-clause-err : goal.put_operation-returns-clause-err
put_operation-returns-clause-err t c =
    let old : SpaceOf = c.args.sp.now in
    let s : SpaceOf = c.put_chunks.new.sp in
    let new : SpaceOf = c.put_chunks-in-None.new.sp in
    let m : Model = c.args.scope.now.m.now in
    let at : Reading = c.args.scope.now.at in
    let p : PutsAll old s m at c.as_slice-in-None.result.now (allows c.args.a.now) = c.in_ok-put_chunks-in-None.ensures.ok in
    let q : PutsAll s new m at c.as_slice-in-None-2.result.now (allows c.args.b.now) = c.in_ok-put_chunks-in-None-2.ensures.ok in
    err_at c.finish_operation.result c.sets-n.result old new c.finish_operation.new.sp (cut_back c.sets-n.result old new (p.sets ++ q.sets) (more_trans old s new p.sets q.sets p.is q.is) (sym c.sets-n.ensures.count)) c.finish_operation.ensures.err

-- ---- put_members

pub put_members-loop-e-init : goal.put_members-loop-e-init
put_members-loop-e-init t c = has_one c.args.sp.now c.put_none.new.sp c.args.scope.now.m.now c.args.scope.now.at c.args.xs.now (any_choice []) (c.put_none.ensures c.args.scope.now.m.now c.args.scope.now.at c.args.xs.now)

pub put_members-put_tree-requires : goal.put_members-put_tree-requires
put_members-put_tree-requires t c =
    let e : Expr = c.e-item.result in
    let es : List Expr = c.args.items.now in
    let get : slice_get es c.loop-e.e-index ≡ Some e = subst (λ (zs : List Expr). slice_get zs c.loop-e.e-index ≡ Some e) c.as_slice-e-items.ensures (item_there c.as_slice-e-items.result.now c.loop-e.e-index e c.loop-e-test.true c.e-item.is) in
    let deep : depth e ≤ all_depth es = member_deep es c.loop-e.e-index e get in
    let fall : 8 * depth e < t = omega (arith, c.decreases, deep) in
    let less : depth e + 1 ≤ 1 + all_depth c.args.items.now = omega (arith, deep) in (
      fall,
      (
        can_more c.args.sp.now c.loop-e.sp c.args.scope.now c.args.xs.now c.args.xs.now (depth e) (1 + all_depth c.args.items.now) (c.loop-e.invariant.set ∷ []) c.requires.can c.loop-e.invariant.is less (omega arith) c.requires.can.chunk c.requires.can.narrow,
        c.requires.readable.each c.loop-e.e-index e get,
      ),
    )

pub put_members-returns-in_err-put_tree-clause-err : goal.put_members-returns-in_err-put_tree-clause-err
put_members-returns-in_err-put_tree-clause-err t c =
    err_exit c.from_residual.result c.in_err-put_tree.field-0.0 _ (search rules)
    (leaves_behind c.args.sp.now c.loop-e.sp c.put_tree.new.sp (c.loop-e.invariant.set ∷ []) c.in_err-put_tree.field-0.0 c.loop-e.invariant.is c.in_err-put_tree.ensures.err)

pub put_members-returns-in_err-finish_either-clause-err : goal.put_members-returns-in_err-finish_either-clause-err
put_members-returns-in_err-finish_either-clause-err t c =
    let m : Model = c.args.scope.now.m.now in
    let at : Reading = c.args.scope.now.at in
    let old : SpaceOf = c.args.sp.now in
    let s : SpaceOf = c.loop-e.sp in
    err_exit c.from_residual-in_err-finish_either.result c.in_err-finish_either.field-0.0 _ (search rules)
    (join_leaves c.sets-n.result old s c.put_tree.new.sp c.finish_either.new.sp c.in_err-finish_either.field-0.0 (sym c.sets-n.ensures.count)
    (some_of old s m at c.args.xs.now (any_choice (take c.loop-e.e-index c.as_slice-e-items.result.now)) c.loop-e.invariant) (put_of s c.put_tree.new.sp m at c.args.xs.now (allows c.e-item.result) c.in_ok-put_tree.ensures.ok) c.in_err-finish_either.ensures.err)

pub put_members-loop-e-preserved : goal.put_members-loop-e-preserved
put_members-loop-e-preserved t c =
    let es : List Expr = c.as_slice-e-items.result.now in
    let get : slice_get es c.loop-e.e-index ≡ Some c.e-item.result = item_there es c.loop-e.e-index c.e-item.result c.loop-e-test.true c.e-item.is in
    member_more c.sets-n.result c.args.sp.now c.loop-e.sp c.put_tree.new.sp c.finish_either.new.sp c.args.scope.now.m.now c.args.scope.now.at c.args.xs.now es c.loop-e.e-index c.e-item.result (sym c.sets-n.ensures.count) c.loop-e.invariant
    c.in_ok-put_tree.ensures.ok c.in_ok-finish_either.ensures.ok get

pub put_members-returns-clause-ok : goal.put_members-returns-clause-ok
put_members-returns-clause-ok t c =
    let m : Model = c.args.scope.now.m.now in
    let at : Reading = c.args.scope.now.at in
    let es : List Expr = c.as_slice-e-items.result.now in
    let all : take c.loop-e.e-index es ≡ es = take_all c.loop-e.e-index es (omega (arith, c.loop-e-test.false)) in
    one_put c.args.sp.now c.loop-e.sp m at c.args.xs.now (any_choice c.args.items.now)
    (one_same c.args.sp.now c.loop-e.sp m at c.args.xs.now (any_choice (take c.loop-e.e-index es)) (any_choice c.args.items.now) (ap any_choice (all ∙ c.as_slice-e-items.ensures)) c.loop-e.invariant)

-- ---- put_branches

pub put_branches-loop-i-init : goal.put_branches-loop-i-init
put_branches-loop-i-init t c =
    let m : Model = c.args.scope.now.m.now in
    let at : Reading = c.args.scope.now.at in
    record {
      within = omega (arith, c.len-i.ensures);
      one = one_same c.args.sp.now c.put_none.new.sp m at c.args.xs.now (λ p z. false) (arm_choice (drop c.len-i.result c.args.branches.now)) (no_arms c.args.branches.now c.len-i.result c.len-i.ensures)
          (has_one c.args.sp.now c.put_none.new.sp m at c.args.xs.now (λ p z. false) (c.put_none.ensures m at c.args.xs.now));
    }

pub put_branches-put_tree-requires : goal.put_branches-put_tree-requires
put_branches-put_tree-requires t c =
    let bs : List Branch = c.args.branches.now in
    let i : ℕ = c.loop-i.i - 1 in
    let one = c.loop-i.invariant.one in
    let deep : (depth c.get-b.result.now.guard ≤ all_branch_depth bs) × (depth c.get-b.result.now.body ≤ all_branch_depth bs) = arm_deep bs i c.get-b.result.now c.get-b.ensures in
    let fall : 8 * depth c.get-b.result.now.guard < t = omega (arith, c.decreases, deep.0) in
    let less : depth c.get-b.result.now.guard + 1 ≤ 1 + all_branch_depth c.args.branches.now = omega (arith, deep.0) in (
      fall,
      (
        can_more c.args.sp.now c.loop-i.sp c.args.scope.now c.args.xs.now ones (depth c.get-b.result.now.guard) (1 + all_branch_depth c.args.branches.now) (one.set ∷ []) c.requires.can one.is less (omega arith) (ones_chunk c.args.sp.now.levels) (omega (arith, widest_some c.args.scope.now.m.now)),
        c.requires.arms.guards i c.get-b.result.now c.get-b.ensures,
      ),
    )

pub put_branches-returns-in_err-put_tree-clause-err : goal.put_branches-returns-in_err-put_tree-clause-err
put_branches-returns-in_err-put_tree-clause-err t c =
    err_exit c.from_residual.result c.in_err-put_tree.field-0.0 _ (search rules)
    (leaves_behind c.args.sp.now c.loop-i.sp c.put_tree.new.sp (c.loop-i.invariant.one.set ∷ []) c.in_err-put_tree.field-0.0 c.loop-i.invariant.one.is c.in_err-put_tree.ensures.err)

pub put_branches-put_tree-requires-in-loop-i : goal.put_branches-put_tree-requires-in-loop-i
put_branches-put_tree-requires-in-loop-i t c =
    let bs : List Branch = c.args.branches.now in
    let i : ℕ = c.loop-i.i - 1 in
    let one = c.loop-i.invariant.one in
    let q = c.in_ok-put_tree.ensures.ok in
    let b : Branch = c.get-b.result.now in
    let deep : (depth c.get-b.result.now.guard ≤ all_branch_depth bs) × (depth c.get-b.result.now.body ≤ all_branch_depth bs) = arm_deep bs i c.get-b.result.now c.get-b.ensures in
    let fall : 8 * depth c.get-b.result.now.body < t = omega (arith, c.decreases, deep.1) in
    let less : depth c.get-b.result.now.body + 1 ≤ 1 + all_branch_depth c.args.branches.now = omega (arith, deep.1) in (
      fall,
      (
        can_more c.args.sp.now c.put_tree.new.sp c.args.scope.now c.args.xs.now c.args.xs.now (depth c.get-b.result.now.body) (1 + all_branch_depth c.args.branches.now) (one.set ∷ q.set ∷ []) c.requires.can
            (push_behind c.args.sp.now c.loop-i.sp c.put_tree.new.sp (one.set ∷ []) q.set one.is q.puts) less (omega arith) c.requires.can.chunk c.requires.can.narrow,
        c.requires.arms.bodies i c.get-b.result.now c.get-b.ensures,
      ),
    )

pub put_branches-returns-in_err-put_tree-2-clause-err : goal.put_branches-returns-in_err-put_tree-2-clause-err
put_branches-returns-in_err-put_tree-2-clause-err t c =
    let one = c.loop-i.invariant.one in
    let q = c.in_ok-put_tree.ensures.ok in
    err_exit c.from_residual-in_err-put_tree-2.result c.in_err-put_tree-2.field-0.0 _ (search rules)
    (leaves_behind c.args.sp.now c.put_tree.new.sp c.put_tree-in-loop-i.new.sp (one.set ∷ q.set ∷ []) c.in_err-put_tree-2.field-0.0 (push_behind c.args.sp.now c.loop-i.sp c.put_tree.new.sp (one.set ∷ []) q.set one.is q.puts) c.in_err-put_tree-2.ensures.err)

pub put_branches-loop-i-preserved : goal.put_branches-loop-i-preserved
put_branches-loop-i-preserved t c =
    let m : Model = c.args.scope.now.m.now in
    let at : Reading = c.args.scope.now.at in
    let bs : List Branch = c.args.branches.now in
    let i : ℕ = c.loop-i.i - 1 in
    let b : Branch = c.get-b.result.now in
    let next : c.loop-i.i ≡ c.loop-i.i - 1 + 1 = omega (arith, c.loop-i-test.true) in
    let single : HasOneChoice m c.get-b.result.now.guard = one_choice m c.requires.can.scoped.formed c.get-b.result.now.guard (c.requires.arms.guards i c.get-b.result.now c.get-b.ensures).expression (c.requires.arms.single i c.get-b.result.now c.get-b.ensures) in
    record {
      within = omega (arith, c.loop-i.invariant.within);
      one = branch_more c.sets-n.result c.args.sp.now c.loop-i.sp c.put_tree.new.sp c.put_tree-in-loop-i.new.sp c.finish_branch.new.sp m at c.args.xs.now bs i c.loop-i.i b (sym c.sets-n.ensures.count) next c.loop-i.invariant.one
          c.in_ok-put_tree.ensures.ok c.in_ok-put_tree-2.ensures.ok c.in_ok-finish_branch.ensures.ok c.get-b.ensures single;
    }

pub put_branches-returns-in_err-finish_branch-clause-err : goal.put_branches-returns-in_err-finish_branch-clause-err
put_branches-returns-in_err-finish_branch-clause-err t c =
    let m : Model = c.args.scope.now.m.now in
    let at : Reading = c.args.scope.now.at in
    let old : SpaceOf = c.args.sp.now in
    let b : Branch = c.get-b.result.now in
    let one = c.loop-i.invariant.one in
    let is = three_more old c.loop-i.sp c.put_tree.new.sp c.put_tree-in-loop-i.new.sp m at c.args.xs.now (allows b.body) (arm_choice (drop c.loop-i.i c.args.branches.now)) (allows b.guard) one c.in_ok-put_tree.ensures.ok c.in_ok-put_tree-2.ensures.ok in
    err_exit c.from_residual-in_err-finish_branch.result c.in_err-finish_branch.field-0.0 _ (search rules)
    (leaves_at c.sets-n.result old c.put_tree-in-loop-i.new.sp c.finish_branch.new.sp c.in_err-finish_branch.field-0.0 (cut_back c.sets-n.result old c.put_tree-in-loop-i.new.sp _ is (sym c.sets-n.ensures.count)) c.in_err-finish_branch.ensures.err)
