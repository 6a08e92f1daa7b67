use Rattle.std.proofs.Common.{rules, ◌++◌, None, refl, sym, subst}
use Rattle.cov_model.specs.Meaning.{allows}
use Rattle.cov_space.proofs.Calls.{err_call, leaves_behind, more_trans}
use Rattle.cov_conditions.specs.Marks.{AreReads}
use Rattle.cov_conditions.proofs.Behind.{family_behind, reads_made, scope_made, still}
use Rattle.cov_conditions.proofs.Gathering.{err_exit}
use Rattle.cov_conditions.proofs.Standings.{standing_more}
use Rattle.cov_conditions.proofs.family.put_behind.Goals as goal

pub put_expr-requires-clause-scope : goal.put_expr-requires-clause-scope
put_expr-requires-clause-scope c =
    let d = c.in_ok-there.ensures.ok in
    scope_made c.args.sp.now c.put_alone.new.sp d.more _ c.model-model.ensures.formed c.requires.plan c.requires.levels d.is
    (still c.put_alone.new.sp c.args.m.now c.args.at c.in_ok-there.there (c.if-is_still.ensures refl) d.stand) d.stand

pub put_expr-requires-clause-reads : goal.put_expr-requires-clause-reads
put_expr-requires-clause-reads c =
    let marked : AreReads c.args.m.now c.args.e.now c.as_slice-marks.result.now = subst (AreReads c.args.m.now c.args.e.now) (sym c.as_slice-marks.ensures.value) c.in-Ok.ensures in
    reads_made c.args.m.now c.in_ok-there.there c.in_ok-there.there c.args.e.now c.as_slice-marks.result.now c.model-model.ensures.formed c.requires.expression.stands marked c.in_ok-there.ensures.ok.there c.in_ok-there.ensures.ok.there

pub returns-then-is_still-clause-ok : goal.returns-then-is_still-clause-ok
returns-then-is_still-clause-ok c =
    family_behind c.put_expr.result c.args.sp.now c.put_alone.new.sp c.put_expr.new.sp c.in_ok-there.ensures.ok.more c.args.m.now c.args.at c.args.xs.now (allows c.args.e.now) c.in_ok-there.ensures.ok.is c.put_expr.ensures.ok

pub returns-then-is_still-clause-err : goal.returns-then-is_still-clause-err
returns-then-is_still-clause-err c = err_call c.put_expr.result c.args.sp.now c.put_alone.new.sp _ c.in_ok-there.ensures.ok.more c.in_ok-there.ensures.ok.is c.put_expr.ensures.err

pub returns-in_err-here-clause-err : goal.returns-in_err-here-clause-err
returns-in_err-here-clause-err c =
    err_exit c.from_residual-in_err-here.result c.in_err-here.field-0.0 _ (search rules)
    (leaves_behind c.args.sp.now c.put_alone.new.sp _ c.in_ok-there.ensures.ok.more c.in_err-here.field-0.0 c.in_ok-there.ensures.ok.is c.in_err-here.ensures.err)

pub put_expr-requires-2-clause-scope : goal.put_expr-requires-2-clause-scope
put_expr-requires-2-clause-scope c =
    let d = c.in_ok-there.ensures.ok in
    let h = c.in_ok-here.ensures.ok in
    scope_made c.args.sp.now c.put_here.new.sp (d.more ++ h.more) _ c.model-model.ensures.formed c.requires.plan c.requires.levels (more_trans c.args.sp.now c.put_alone.new.sp c.put_here.new.sp d.more h.more d.is h.is)
    h.stand (standing_more c.put_alone.new.sp c.put_here.new.sp h.more c.args.m.now c.args.at.next None c.in_ok-there.there h.is d.stand)

pub put_expr-requires-2-clause-reads : goal.put_expr-requires-2-clause-reads
put_expr-requires-2-clause-reads c =
    let marked : AreReads c.args.m.now c.args.e.now c.as_slice-marks.result.now = subst (AreReads c.args.m.now c.args.e.now) (sym c.as_slice-marks.ensures.value) c.in-Ok.ensures in
    reads_made c.args.m.now c.in_ok-here.here c.in_ok-there.there c.args.e.now c.as_slice-marks.result.now c.model-model.ensures.formed c.requires.expression.stands marked c.in_ok-here.ensures.ok.there c.in_ok-there.ensures.ok.there

pub returns-clause-ok : goal.returns-clause-ok
returns-clause-ok c =
    let d = c.in_ok-there.ensures.ok in
    let h = c.in_ok-here.ensures.ok in
    family_behind c.put_expr-2.result c.args.sp.now c.put_here.new.sp c.put_expr-2.new.sp (d.more ++ h.more) c.args.m.now c.args.at c.args.xs.now (allows c.args.e.now)
    (more_trans c.args.sp.now c.put_alone.new.sp c.put_here.new.sp d.more h.more d.is h.is) c.put_expr-2.ensures.ok

pub returns-clause-err : goal.returns-clause-err
returns-clause-err c =
    let d = c.in_ok-there.ensures.ok in
    let h = c.in_ok-here.ensures.ok in
    err_call c.put_expr-2.result c.args.sp.now c.put_here.new.sp _ (d.more ++ h.more) (more_trans c.args.sp.now c.put_alone.new.sp c.put_here.new.sp d.more h.more d.is h.is) c.put_expr-2.ensures.err
