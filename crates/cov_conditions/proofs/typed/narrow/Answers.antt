use Rattle.std.proofs.Common.{rules, arith, ◌<◌, ◌≤◌, ◌^◌, ◌∷◌, [], length}
use Rattle.cov_space.specs.Sets.{SpaceOf, set_at}
use Rattle.cov_space.proofs.Calls.{call_leaves, basic_leaves, err_exit, push_behind}
use Rattle.cov_conditions.specs.Fixed.{first_sets}
use Rattle.cov_conditions.proofs.Typing.{split_last}
use Rattle.cov_conditions.proofs.typed.narrow.Goals as goal

pub returns-in_err-put_typed-clause-err : goal.returns-in_err-put_typed-clause-err
returns-in_err-put_typed-clause-err c =
    err_exit c.from_residual.result c.in_err-put_typed.field-0.0 _ (search rules)
    (call_leaves (first_sets c.args.sp.now c.args.n) c.args.sp.now _ (set_at c.args.sp.now.sets c.args.n ∷ []) c.in_err-put_typed.field-0.0 (split_last c.args.sp.now c.args.n c.requires.last) c.in_err-put_typed.ensures.err)

pub overflow_add-n : goal.overflow_add-n
overflow_add-n c =
    let within : length c.args.sp.now.sets ≤ c.args.sp.now.places = c.sets-sets.ensures.within in
    let small : c.args.sp.now.places < 2 ^ 32 = c.sets-sets.ensures.small in
    omega arith

pub returns-in_err-and-clause-err : goal.returns-in_err-and-clause-err
returns-in_err-and-clause-err c =
    let old : SpaceOf = c.args.sp.now in
    err_exit c.from_residual-in_err-and.result c.in_err-and.field-0.0 _ (search rules)
    (basic_leaves (first_sets old c.args.n) c.put_typed.new.sp _ _ _ c.in_err-and.field-0.0
    (push_behind (first_sets old c.args.n) old c.put_typed.new.sp (set_at old.sets c.args.n ∷ []) _ (split_last old c.args.n c.requires.last) c.in_ok-put_typed.ensures.ok)
    c.in_err-and.ensures.err)
