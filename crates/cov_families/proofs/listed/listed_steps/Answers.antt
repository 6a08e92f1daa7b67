use Rattle.std.proofs.Common.{◌≡◌, ◌<◌, ◌^◌, ◌==◌, ◌&&◌, Bool, List, length, get_or, false, refl, sym, ◌∙◌, ap, subst, arith}
use Rattle.std.proofs.lemmas.List.{get_or_past}
use Rattle.cov_bits.proofs.Widths.{place_below}
use Rattle.cov_fields.specs.declared.field.Field.{Field}
use Rattle.cov_fields.specs.Fields.{held}
use Rattle.cov_families.specs.Families.{some_below}
use Rattle.cov_families.proofs.Numbers.{some_one}
use Rattle.cov_families.proofs.Gathering.{gathers_more, gathers_puts}
use Rattle.cov_families.proofs.listed.listed_steps.Goals as goal

pub add_pick-requires-clause-fits : goal.add_pick-requires-clause-fits
add_pick-requires-clause-fits c = subst (λ (f : Field). c.loop-i.i < 2 ^ f.width) (sym c.index_of-field.ensures) (place_below (length c.args.picks.now) c.loop-i.i c.loop-i-test.true)

pub loop-i-preserved : goal.loop-i-preserved
loop-i-preserved c = gathers_more c.args.sp.now c.loop-i.sp c.add_pick.new.sp c.sets-n.result c.loop-i.i _ _ (sym c.sets-n.ensures.count) c.loop-i.invariant c.in_ok-add_pick.ensures.ok (λ row len. refl)

pub returns-clause-ok : goal.returns-clause-ok
returns-clause-ok c =
    let picks : List Bool = c.args.picks.now in
    let whole : c.loop-i.i ≡ length picks = omega arith in
    gathers_puts c.args.sp.now c.loop-i.sp c.loop-i.i _ _ c.loop-i.invariant (λ row len.
    ap (λ n. some_below n (λ k. held c.index_of-field.result row == k && get_or picks k false)) whole
    ∙ some_one (length picks) (held c.index_of-field.result row) (λ k. get_or picks k false) (get_or_past picks (held c.index_of-field.result row) false)
    ∙ ap (λ (f : Field). get_or picks (held f row) false) c.index_of-field.ensures)
