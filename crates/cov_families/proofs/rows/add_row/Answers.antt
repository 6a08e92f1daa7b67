use Rattle.std.proofs.Common.{refl, arith}
use Rattle.cov_space.specs.Sets.{SpaceOf, set_at}
use Rattle.cov_space.proofs.Calls.{err_call}
use Rattle.cov_families.proofs.Gathering.{adds_top}
use Rattle.cov_families.proofs.Combining.{row_made, lies-row}
use Rattle.cov_families.proofs.rows.add_row.Goals as goal

pub returns-clause-ok : goal.returns-clause-ok
returns-clause-ok c =
    let old : SpaceOf = c.args.sp.now in
    adds_top c.add_last.result old c.and.new.self c.add_last.new.sp _ c.args.place 2 _ _
    (row_made old c.restrict_to.new.sp c.put_row.new.sp c.and.new.self c.args.rests c.args.codes c.args.a c.args.place c.args.table.now c.args.i c.index_of.result c.index_of.ensures c.requires.place c.requires.table c.requires.row c.in_ok-restrict_to.ensures.ok c.in_ok-put_row.ensures.ok c.in_ok-and.ensures.ok)
    refl refl (omega arith) (λ row len. lies-row old.levels c.args.rests c.args.codes old.sets (set_at old.sets c.args.a) c.args.table.now c.args.i row len) c.add_last.ensures.ok

pub returns-clause-err : goal.returns-clause-err
returns-clause-err c =
    let old : SpaceOf = c.args.sp.now in
    err_call c.add_last.result old c.and.new.self _ _
    (row_made old c.restrict_to.new.sp c.put_row.new.sp c.and.new.self c.args.rests c.args.codes c.args.a c.args.place c.args.table.now c.args.i c.index_of.result c.index_of.ensures c.requires.place c.requires.table c.requires.row c.in_ok-restrict_to.ensures.ok c.in_ok-put_row.ensures.ok c.in_ok-and.ensures.ok)
    c.add_last.ensures.err
