use Rattle.std.proofs.Common.{◌≡◌, ◌==◌, ◌/◌, ◌^◌, ◌%◌, subst, ◌+◌, ◌∷◌, [], length, ap, sym, ◌∙◌, arith}
use Rattle.cov_space.specs.Sets.{SpaceOf}
use Rattle.cov_space.specs.Answers.{PutsSet}
use Rattle.cov_space.specs.Steps.{with_more}
use Rattle.cov_fields.specs.Steps.{rows_with_bit, number_from}
use Rattle.cov_fields.proofs.Steps.{puts_last, count_last, number_turn, number_whole}
use Rattle.cov_fields.proofs.sets.number_steps.Goals as goal

pub loop-w-preserved : goal.loop-w-preserved
loop-w-preserved c =
    let old : SpaceOf = c.args.sp.now in
    let f = c.args.field in
    let count : length old.sets ≡ c.sets-n.result = sym c.sets-n.ensures.count in
    let is : c.settle.new.self ≡ with_more old (number_from old.levels f c.args.k (c.loop-w.w + 1) ∷ []) =
    number_turn old c.loop-w.sp c.put_bit.new.sp c.and.new.self c.settle.new.self f c.args.k c.loop-w.w c.sets-n.result count c.requires.field c.loop-w-test.true c.loop-w.invariant.is (subst (λ l. PutsSet c.loop-w.sp c.put_bit.new.sp (rows_with_bit c.loop-w.sp.levels l (c.args.k / 2 ^ c.loop-w.w % 2 == 1))) c.level.ensures c.in_ok-put_bit.ensures.ok) c.in_ok-and.ensures.ok c.settle.ensures in
    record {
      is = is;
      count = count_last old c.settle.new.self c.sets-n.result _ count is ∙ ap (λ m. m + 1) (sym count);
      places = ap (λ (z : SpaceOf). z.places) is;
      levels = ap (λ (z : SpaceOf). z.levels) is;
    }

pub returns-clause-ok : goal.returns-clause-ok
returns-clause-ok c =
    let old : SpaceOf = c.args.sp.now in
    let whole : c.loop-w.w ≡ c.args.field.width = omega arith in
    puts_last old c.loop-w.sp _ (c.loop-w.invariant.is ∙ ap (λ z. with_more old (z ∷ [])) (number_whole old.levels c.args.field c.args.k c.loop-w.w whole c.requires.fits))
