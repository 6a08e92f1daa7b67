use Rattle.std.proofs.Common.{rules, arith}
use Rattle.cov_space.proofs.Calls.{err_exit}
use Rattle.cov_nodes.specs.Choices.{negated_choices}
use Rattle.cov_expressions.proofs.Stack.{leaves_under}
use Rattle.cov_expressions.proofs.Families.{some_put_chunks, settled_family}
use Rattle.cov_expressions.proofs.operation.finish_negation.Goals as goal

pub returns-in_err-put_negatives-clause-err : goal.returns-in_err-put_negatives-clause-err
returns-in_err-put_negatives-clause-err c =
    err_exit c.from_residual.result c.in_err-put_negatives.field-0.0 _ (search rules)
    (leaves_under c.args.n c.args.sp.now c.put_negatives.new.sp c.in_err-put_negatives.field-0.0 c.in_err-put_negatives.ensures.err)

pub settle-requires : goal.settle-requires
settle-requires c =
    let q = some_put_chunks c.args.sp.now c.put_negatives.new.sp c.args.xs.now c.args.operand.values.now c.args.operand.first (negated_choices c.args.operand.values.now) c.in_ok-put_negatives.ensures.ok in
    omega (arith, q.puts.count, c.requires.n)

pub returns-clause-ok : goal.returns-clause-ok
returns-clause-ok c = λ m at f h.
    settled_family c.args.n c.args.sp.now c.put_negatives.new.sp c.settle.new.self m at c.args.xs.now (negated_choices c.args.operand.values.now f) c.requires.n (c.in_ok-put_negatives.ensures.ok m at f h) c.settle.ensures
