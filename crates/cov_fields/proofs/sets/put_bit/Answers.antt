use Rattle.std.proofs.Common.{rules}
use Rattle.cov_space.proofs.Calls.{basic_leaves, err_exit}
use Rattle.cov_fields.proofs.sets.put_bit.Goals as goal

pub returns-in_err-not-clause-err : goal.returns-in_err-not-clause-err
returns-in_err-not-clause-err c = err_exit c.from_residual-in_err-not.result c.in_err-not.field-0.0 _ (search rules) (basic_leaves _ _ _ _ _ c.in_err-not.field-0.0 c.in_ok-bit.ensures.ok.is c.in_err-not.ensures.err)
