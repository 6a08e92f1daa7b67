use Rattle.std.proofs.Common.{◌≡◌, ◌==◌, ◌/◌, ◌^◌, ◌%◌, subst, ◌+◌, ◌∷◌, [], length, ap, sym, ◌∙◌}
use Rattle.cov_space.specs.Sets.{SpaceOf, set_at}
use Rattle.cov_space.specs.Answers.{PutsSet}
use Rattle.cov_space.specs.Operations.{restriction}
use Rattle.cov_space.specs.Steps.{with_more}
use Rattle.cov_fields.specs.Steps.{rest_from}
use Rattle.cov_fields.proofs.Steps.{count_last, rest_turn}
use Rattle.cov_fields.proofs.sets.restrict_steps.Goals as goal

pub loop-w-preserved : goal.loop-w-preserved
loop-w-preserved c =
    let old : SpaceOf = c.args.sp.now in
    let f = c.args.field in
    let count : length old.sets ≡ c.sets-n.result = sym c.sets-n.ensures.count in
    let is : c.settle.new.self ≡ with_more old (rest_from old.levels f c.args.k (c.loop-w.w + 1) (set_at old.sets c.args.set) ∷ []) =
    rest_turn old c.loop-w.sp c.restrict.new.self c.settle.new.self f c.args.k c.loop-w.w c.sets-n.result (set_at old.sets c.args.set) count c.requires.field c.loop-w-test.true c.loop-w.invariant.is (subst (λ l. PutsSet c.loop-w.sp c.restrict.new.self (restriction c.loop-w.sp.levels (set_at c.loop-w.sp.sets c.sets-n.result) l (c.args.k / 2 ^ c.loop-w.w % 2 == 1))) c.level.ensures c.in_ok-restrict.ensures.ok) c.settle.ensures in
    record {
      is = is;
      count = count_last old c.settle.new.self c.sets-n.result _ count is ∙ ap (λ m. m + 1) (sym count);
      places = ap (λ (z : SpaceOf). z.places) is;
      levels = ap (λ (z : SpaceOf). z.levels) is;
    }
