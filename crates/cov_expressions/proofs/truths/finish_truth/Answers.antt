use Rattle.std.proofs.Common.{rules, ◌≤◌, length, arith}
use Rattle.cov_space.specs.Sets.{SpaceOf, set_at}
use Rattle.cov_space.proofs.Calls.{err_exit}
use Rattle.cov_nodes.specs.Choices.{is_true_at, of_truth, ones}
use Rattle.cov_expressions.proofs.Stack.{leaves_cut}
use Rattle.cov_expressions.proofs.Families.{some_put, settled_family}
use Rattle.cov_expressions.proofs.truths.finish_truth.Goals as goal

pub returns-in_err-put_truth_values-clause-err : goal.returns-in_err-put_truth_values-clause-err
returns-in_err-put_truth_values-clause-err c =
    err_exit c.from_residual.result c.in_err-put_truth_values.field-0.0 _ (search rules)
    (leaves_cut c.args.n c.args.sp.now c.put_truth_values.new.sp c.in_err-put_truth_values.field-0.0 c.in_err-put_truth_values.ensures.err)

pub settle-requires : goal.settle-requires
settle-requires c =
    let old : SpaceOf = c.args.sp.now in
    let q = some_put old c.put_truth_values.new.sp c.args.xs.now ones (set_at old.sets c.args.n) (λ f. of_truth (is_true_at f)) c.in_ok-put_truth_values.ensures.ok in
    omega (arith, q.puts.count, c.requires.last)

pub returns-clause-ok : goal.returns-clause-ok
returns-clause-ok c = λ m at f h.
    let old : SpaceOf = c.args.sp.now in
    let le : c.args.n ≤ length old.sets = omega (arith, c.requires.last) in
    settled_family c.args.n old c.put_truth_values.new.sp c.settle.new.self m at c.args.xs.now (of_truth (is_true_at f)) le (c.in_ok-put_truth_values.ensures.ok m at f h) c.settle.ensures
