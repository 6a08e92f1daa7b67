use Rattle.std.proofs.Common.{rules}
use Rattle.cov_space.proofs.TaskLemmas.{bit_refused}
use Rattle.cov_space.proofs.task.bit.Goals as goal

pub returns-in_err-mk : goal.returns-in_err-mk
returns-in_err-mk c = bit_refused c.from_residual.result c.args.table.now c.mk.new.self c.args.level c.in_err-mk.field-0.0 (search rules) c.mk.ensures.computes c.in_err-mk.ensures.err
