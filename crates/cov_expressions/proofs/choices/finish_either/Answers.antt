use Rattle.std.proofs.Common.{rules, ◌≤◌, ◌+◌, ◌||◌, length, [], arith}
use Rattle.cov_space.specs.Sets.{SpaceOf, set_at}
use Rattle.cov_space.proofs.Calls.{err_exit}
use Rattle.cov_expressions.proofs.Stack.{leaves_cut}
use Rattle.cov_expressions.proofs.Families.{some_put_two, settled_family}
use Rattle.cov_expressions.proofs.choices.finish_either.Goals as goal

pub returns-in_err-put_either-clause-err : goal.returns-in_err-put_either-clause-err
returns-in_err-put_either-clause-err c =
    err_exit c.from_residual.result c.in_err-put_either.field-0.0 _ (search rules)
    (leaves_cut c.args.n c.args.sp.now c.put_either.new.sp c.in_err-put_either.field-0.0 c.in_err-put_either.ensures.err)

pub settle-requires : goal.settle-requires
settle-requires c =
    let old : SpaceOf = c.args.sp.now in
    let q = some_put_two old c.put_either.new.sp [] [] [] (set_at old.sets c.args.n) (set_at old.sets (c.args.n + 1)) (λ f g p z. f p z || g p z) (λ m at f g h i. c.in_ok-put_either.ensures.ok m at [] f g h i) in
    omega (arith, q.puts.count, c.requires.last)

pub returns-clause-ok : goal.returns-clause-ok
returns-clause-ok c = λ m at xs f g h i.
    let old : SpaceOf = c.args.sp.now in
    let le : c.args.n ≤ length old.sets = omega (arith, c.requires.last) in
    settled_family c.args.n old c.put_either.new.sp c.settle.new.self m at xs (λ p z. f p z || g p z) le (c.in_ok-put_either.ensures.ok m at xs f g h i) c.settle.ensures
