use Rattle.std.proofs.Common.{rules, arith}
use Rattle.cov_nodes.proofs.Pairing.{pairs_more}
use Rattle.cov_nodes.proofs.targets.table_of.Goals as goal

pub loop-x-preserved : goal.loop-x-preserved
loop-x-preserved c =
    pairs_more c.args.op c.args.xs.now c.args.ys.now c.args.results.now _ _ c.loop-x.x-index _ (omega arith) (search rules) c.loop-x.invariant c.in_ok-push_row.ensures
