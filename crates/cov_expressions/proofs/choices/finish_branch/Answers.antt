use Rattle.std.proofs.Common.{rules, ◌≤◌, ◌+◌, length, if◌then◌else◌, [], arith}
use Rattle.cov_space.specs.Sets.{SpaceOf, set_at}
use Rattle.cov_space.proofs.Calls.{err_exit}
use Rattle.cov_nodes.specs.Choices.{is_true_at}
use Rattle.cov_expressions.proofs.Stack.{leaves_cut}
use Rattle.cov_expressions.proofs.Families.{some_put_three, settled_family}
use Rattle.cov_expressions.proofs.choices.finish_branch.Goals as goal

pub returns-in_err-put_branch-clause-err : goal.returns-in_err-put_branch-clause-err
returns-in_err-put_branch-clause-err c =
    err_exit c.from_residual.result c.in_err-put_branch.field-0.0 _ (search rules)
    (leaves_cut c.args.n c.args.sp.now c.put_branch.new.sp c.in_err-put_branch.field-0.0 c.in_err-put_branch.ensures.err)

pub settle-requires : goal.settle-requires
settle-requires c =
    let old : SpaceOf = c.args.sp.now in
    let q = some_put_three old c.put_branch.new.sp [] (set_at old.sets (c.args.n + 1)) (set_at old.sets (c.args.n + 2)) (set_at old.sets c.args.n) (λ h f g p z. if is_true_at h p then f p z else g p z) c.in_ok-put_branch.ensures.ok in
    omega (arith, q.puts.count, c.requires.last)

pub returns-clause-ok : goal.returns-clause-ok
returns-clause-ok c = λ m at xs h f g i j k.
    let old : SpaceOf = c.args.sp.now in
    let le : c.args.n ≤ length old.sets = omega (arith, c.requires.last) in
    settled_family c.args.n old c.put_branch.new.sp c.settle.new.self m at xs (λ p z. if is_true_at h p then f p z else g p z) le (c.in_ok-put_branch.ensures.ok m at xs h f g j k i) c.settle.ensures
