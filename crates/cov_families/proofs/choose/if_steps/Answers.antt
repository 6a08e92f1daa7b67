use Rattle.std.proofs.Common.{rules, ◌≡◌, length}
use Rattle.cov_space.specs.Sets.{SpaceOf}
use Rattle.cov_space.proofs.Calls.{basic_leaves, err_exit}
use Rattle.cov_families.proofs.Choosing.{if_second, if_third, if_made}
use Rattle.cov_families.proofs.choose.if_steps.Goals as goal

pub returns-in_err-not-clause-err : goal.returns-in_err-not-clause-err
returns-in_err-not-clause-err c =
    let old : SpaceOf = c.args.sp.now in
    err_exit c.from_residual-in_err-not.result c.in_err-not.field-0.0 _ (search rules) (basic_leaves old c.and.new.self _ _ _ c.in_err-not.field-0.0 c.in_ok-and.ensures.ok.is c.in_err-not.ensures.err)

pub returns-in_err-and-2-clause-err : goal.returns-in_err-and-2-clause-err
returns-in_err-and-2-clause-err c =
    let old : SpaceOf = c.args.sp.now in
    err_exit c.from_residual-in_err-and-2.result c.in_err-and-2.field-0.0 _ (search rules) (basic_leaves old c.not.new.self _ _ _ c.in_err-and-2.field-0.0 (if_second old c.and.new.self c.not.new.self c.args.guard c.args.then c.requires.guard c.in_ok-and.ensures.ok c.in_ok-not.ensures.ok) c.in_err-and-2.ensures.err)

pub returns-in_err-or-clause-err : goal.returns-in_err-or-clause-err
returns-in_err-or-clause-err c =
    let old : SpaceOf = c.args.sp.now in
    let n : c.sets-n.result ≡ length old.sets = c.sets-n.ensures.count in
    let two = if_second old c.and.new.self c.not.new.self c.args.guard c.args.then c.requires.guard c.in_ok-and.ensures.ok c.in_ok-not.ensures.ok in
    let three = if_third old c.not.new.self c.and-2.new.self c.sets-n.result c.args.guard c.args.then c.args.other n c.requires.other two c.in_ok-and-2.ensures.ok in
    err_exit c.from_residual-in_err-or.result c.in_err-or.field-0.0 _ (search rules) (basic_leaves old c.and-2.new.self _ _ _ c.in_err-or.field-0.0 three c.in_err-or.ensures.err)

pub returns-clause-ok : goal.returns-clause-ok
returns-clause-ok c =
    let old : SpaceOf = c.args.sp.now in
    let n : c.sets-n.result ≡ length old.sets = c.sets-n.ensures.count in
    let two = if_second old c.and.new.self c.not.new.self c.args.guard c.args.then c.requires.guard c.in_ok-and.ensures.ok c.in_ok-not.ensures.ok in
    let three = if_third old c.not.new.self c.and-2.new.self c.sets-n.result c.args.guard c.args.then c.args.other n c.requires.other two c.in_ok-and-2.ensures.ok in
    if_made old c.and-2.new.self c.or.new.self c.settle.new.self c.sets-n.result c.args.guard c.args.then c.args.other n three c.in_ok-or.ensures.ok c.settle.ensures
