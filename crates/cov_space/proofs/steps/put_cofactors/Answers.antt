use Rattle.std.proofs.Common.{rules}
use Rattle.cov_space.proofs.Calls.{basic_leaves, err_basic, err_exit, two_cofactors, cofactors_ok}
use Rattle.cov_space.proofs.steps.put_cofactors.Goals as goal

pub returns-in_err-basic-2-clause-err : goal.returns-in_err-basic-2-clause-err
returns-in_err-basic-2-clause-err c = err_exit c.from_residual-in_err-basic-2.result c.in_err-basic-2.field-0.0 _ (search rules) (basic_leaves _ _ _ _ _ c.in_err-basic-2.field-0.0 c.in_ok-basic.ensures.ok.is c.in_err-basic-2.ensures.err)

pub returns-clause-ok : goal.returns-clause-ok
returns-clause-ok c = cofactors_ok c.basic-3.result _ _ _ _ c.args.n c.args.level c.args.op c.requires.last c.in_ok-basic.ensures.ok c.in_ok-basic-2.ensures.ok c.basic-3.ensures.ok

pub returns-clause-err : goal.returns-clause-err
returns-clause-err c = err_basic c.basic-3.result _ _ _ _ _ (two_cofactors _ _ _ c.args.n c.args.level c.requires.last c.in_ok-basic.ensures.ok c.in_ok-basic-2.ensures.ok) c.basic-3.ensures.err
