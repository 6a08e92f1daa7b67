use Rattle.cov_space.proofs.Calls.{err_basic, with_ok}
use Rattle.cov_space.proofs.steps.put_with.Goals as goal

pub returns-clause-ok : goal.returns-clause-ok
returns-clause-ok c = with_ok c.basic-2.result _ _ _ c.args.n c.args.op _ c.requires.last c.in_ok-basic.ensures.ok c.basic-2.ensures.ok

pub returns-clause-err : goal.returns-clause-err
returns-clause-err c = err_basic c.basic-2.result _ _ _ _ _ c.in_ok-basic.ensures.ok.is c.basic-2.ensures.err
