use Rattle.std.proofs.Common.{sym}
use Rattle.cov_space.specs.Sets.{SpaceOf}
use Rattle.cov_families.proofs.Gathering.{gathers_more}
use Rattle.cov_families.proofs.Combining.{row_front}
use Rattle.cov_families.proofs.rows.put_rows.Goals as goal

pub loop-i-preserved : goal.loop-i-preserved
loop-i-preserved c =
    let old : SpaceOf = c.args.sp.now in
    gathers_more old c.loop-i.sp c.add_row.new.sp c.sets-n.result c.loop-i.i _ _ (sym c.sets-n.ensures.count) c.loop-i.invariant c.in_ok-add_row.ensures.ok (λ row len.
    row_front old c.loop-i.sp _ c.args.rests c.args.codes c.args.a c.args.table.now c.loop-i.i row c.loop-i.invariant.is c.requires.table c.loop-i-test.true c.requires.a)
