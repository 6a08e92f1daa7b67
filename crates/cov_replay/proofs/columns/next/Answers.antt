use Rattle.std.proofs.Common.{length, arith}
use Rattle.cov_replay.proofs.NextAnswers.{next_more}
use Rattle.cov_replay.proofs.columns.next.Goals as goal

pub loop-p-preserved : goal.loop-p-preserved
loop-p-preserved c =
    next_more (length c.args.column.now) c.args.turn c.loop-p.column c.args.other.now c.loop-p.p c.next_place.result c.loop-p.auto.column
    c.loop-p-test.true (omega arith) c.next_place.ensures.next c.loop-p.invariant

pub returns : goal.returns
returns c = λ p h. c.loop-p.invariant p (omega arith)
