use Rattle.std.proofs.Common.{rules, ◌≡◌, if◌then◌else◌, OnOk, ℕ, Bool, true, false, sym, subst, ◌∙◌, arith}
use Rattle.cov_space.specs.Sets.{SpaceOf}
use Rattle.cov_space.proofs.Calls.{err_exit}
use Rattle.cov_nodes.specs.Choices.{Choice, IsChunk, PutsFamily, is_true_at, of_truth, ones, operated_choices}
use Rattle.cov_expressions.specs.Parts.{cut_to, is_sum}
use Rattle.cov_expressions.proofs.Stack.{leaves_under}
use Rattle.cov_expressions.proofs.Families.{IsSettled, some_put_rows, settled_family, settled_some, settled_leaves, then_truth}
use Rattle.cov_expressions.proofs.operation.finish_operation.Goals as goal

pub returns-in_err-put_rows-clause-err : goal.returns-in_err-put_rows-clause-err
returns-in_err-put_rows-clause-err c =
    err_exit c.from_residual.result c.in_err-put_rows.field-0.0 _ (search rules)
    (leaves_under c.args.n c.args.sp.now c.put_rows.new.sp c.in_err-put_rows.field-0.0 c.in_err-put_rows.ensures.err)

pub settle-requires : goal.settle-requires
settle-requires c =
    let q = some_put_rows c.args.sp.now c.put_rows.new.sp c.args.xs.now c.args.left.values.now c.args.right.values.now c.args.left.first c.args.right.first (operated_choices c.args.op c.args.left.values.now c.args.right.values.now) c.in_ok-put_rows.ensures.ok in
    omega (arith, q.puts.count, c.requires.n)

pub returns-in_ok-put_rows-clause-ok : goal.returns-in_ok-put_rows-clause-ok
returns-in_ok-put_rows-clause-ok c = λ m at f g h i.
    let old : SpaceOf = c.args.sp.now in
    let F : Choice = operated_choices c.args.op c.args.left.values.now c.args.right.values.now f g in
    let sum : is_sum c.args.op ≡ true = sym c.makes_number.ensures ∙ c.if-makes_number.true in
    subst (λ (b : Bool). PutsFamily (cut_to c.args.n old) c.settle.new.self m at c.args.xs.now (if b then F else of_truth (is_true_at F))) (sym sum)
    (settled_family c.args.n old c.put_rows.new.sp c.settle.new.self m at c.args.xs.now F c.requires.n (c.in_ok-put_rows.ensures.ok m at f g h i) c.settle.ensures)

pub returns-in_err-put_rows-2-clause-err : goal.returns-in_err-put_rows-2-clause-err
returns-in_err-put_rows-2-clause-err c =
    err_exit c.from_residual-in_err-put_rows-2.result c.in_err-put_rows-2.field-0.0 _ (search rules)
    (leaves_under c.args.n c.args.sp.now c.put_rows-else-makes_number.new.sp c.in_err-put_rows-2.field-0.0 c.in_err-put_rows-2.ensures.err)

pub settle-requires-else-makes_number : goal.settle-requires-else-makes_number
settle-requires-else-makes_number c =
    let q = some_put_rows c.args.sp.now c.put_rows-else-makes_number.new.sp ones c.args.left.values.now c.args.right.values.now c.args.left.first c.args.right.first (operated_choices c.args.op c.args.left.values.now c.args.right.values.now) c.in_ok-put_rows-2.ensures.ok in
    omega (arith, q.puts.count, c.requires.n)

pub finish_truth-requires : goal.finish_truth-requires
finish_truth-requires c =
    let old : SpaceOf = c.args.sp.now in
    let q = some_put_rows old c.put_rows-else-makes_number.new.sp ones c.args.left.values.now c.args.right.values.now c.args.left.first c.args.right.first (operated_choices c.args.op c.args.left.values.now c.args.right.values.now) c.in_ok-put_rows-2.ensures.ok in
    let k : IsSettled c.args.n old c.settle-else-makes_number.new.self = settled_some c.args.n old c.put_rows-else-makes_number.new.sp c.settle-else-makes_number.new.self c.requires.n q c.settle-else-makes_number.ensures in
    record {
      last = omega (arith, k.count);
      chunk = subst (λ (z : ℕ). IsChunk z c.args.xs.now) (sym k.levels) c.requires.chunk;
      room = omega (arith, k.count, k.places, c.requires.n, c.requires.room);
    }

pub returns-in_ok-put_rows-2-clause-ok : goal.returns-in_ok-put_rows-2-clause-ok
returns-in_ok-put_rows-2-clause-ok c = λ m at f g h i.
    let old : SpaceOf = c.args.sp.now in
    let F : Choice = operated_choices c.args.op c.args.left.values.now c.args.right.values.now f g in
    let truth : is_sum c.args.op ≡ false = sym c.makes_number.ensures ∙ c.if-makes_number.false in
    subst (λ (b : Bool). OnOk c.finish_truth.result (PutsFamily (cut_to c.args.n old) c.finish_truth.new.sp m at c.args.xs.now (if b then F else of_truth (is_true_at F)))) (sym truth)
    (then_truth c.finish_truth.result c.args.n old c.put_rows-else-makes_number.new.sp c.settle-else-makes_number.new.self c.finish_truth.new.sp m at c.args.xs.now F c.requires.n
    (c.in_ok-put_rows-2.ensures.ok m at f g h i) c.settle-else-makes_number.ensures c.finish_truth.ensures.ok)

pub returns-in_ok-put_rows-2-clause-err : goal.returns-in_ok-put_rows-2-clause-err
returns-in_ok-put_rows-2-clause-err c =
    let old : SpaceOf = c.args.sp.now in
    let q = some_put_rows old c.put_rows-else-makes_number.new.sp ones c.args.left.values.now c.args.right.values.now c.args.left.first c.args.right.first (operated_choices c.args.op c.args.left.values.now c.args.right.values.now) c.in_ok-put_rows-2.ensures.ok in
    let k : IsSettled c.args.n old c.settle-else-makes_number.new.self = settled_some c.args.n old c.put_rows-else-makes_number.new.sp c.settle-else-makes_number.new.self c.requires.n q c.settle-else-makes_number.ensures in
    settled_leaves c.finish_truth.result c.args.n old c.settle-else-makes_number.new.self c.finish_truth.new.sp k c.finish_truth.ensures.err
