use Rattle.std.proofs.Common.{◌≡◌, ◌+◌, ◌*◌, ◌&&◌, ℕ, Option, None, sym, ◌∙◌, ap}
use Rattle.std.proofs.lemmas.Option.{get_or_from_slice_get}
use Rattle.cov_space.specs.Sets.{SpaceOf, lies, set_at}
use Rattle.cov_families.specs.Families.{entry}
use Rattle.cov_families.specs.Steps.{in_code}
use Rattle.cov_families.proofs.Gathering.{gathers_more}
use Rattle.cov_families.proofs.Combining.{column_front}
use Rattle.cov_families.proofs.rows.put_row.Goals as goal

pub loop-j-preserved : goal.loop-j-preserved
loop-j-preserved c =
    let old : SpaceOf = c.args.sp.now in
    let s : SpaceOf = c.loop-j.sp in
    let read : c.get-target.result.now ≡ entry c.args.table.now c.args.i c.loop-j.j = sym (get_or_from_slice_get c.args.table.now.targets (c.args.i * c.args.table.now.columns + c.loop-j.j) _ None c.get-target.ensures) in
    gathers_more old s c.add_column.new.sp c.sets-n.result c.loop-j.j _ _ (sym c.sets-n.ensures.count) c.loop-j.invariant c.in_ok-add_column.ensures.ok (λ row len.
    ap (λ (t : Option ℕ). lies (set_at s.sets (c.args.rests + c.loop-j.j)) row && in_code s.sets c.args.codes t row) read
    ∙ column_front old s _ c.args.rests c.args.codes c.args.table.now c.args.i c.loop-j.j row c.loop-j.invariant.is c.requires.table c.requires.row c.loop-j-test.true)
