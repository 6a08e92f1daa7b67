use Rattle.std.proofs.Common.{sym}
use Rattle.cov_nodes.proofs.Logic.{rest_puts}
use Rattle.cov_nodes.proofs.truths.rest_steps.Goals as goal

pub returns-clause-ok : goal.returns-clause-ok
returns-clause-ok c =
    rest_puts c.args.sp.now c.not.new.self c.put_one_of.new.sp c.settle.new.self c.args.a c.args.b c.sets-n.result c.args.alone (sym c.sets-n.ensures.count) c.requires.b c.in_ok-not.ensures.ok c.in_ok-put_one_of.ensures.ok c.settle.ensures
