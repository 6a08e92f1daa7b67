use Rattle.std.proofs.Common.{arith}
use Rattle.cov_families.proofs.Gathering.{adds_last}
use Rattle.cov_families.proofs.adding.add_last.Goals as goal

pub returns-clause-ok : goal.returns-clause-ok
returns-clause-ok c = adds_last c.args.sp.now c.or.new.self c.settle.new.self c.args.place _ (omega arith) (omega arith) c.in_ok-or.ensures.ok c.settle.ensures
