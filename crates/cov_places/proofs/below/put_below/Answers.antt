use Rattle.std.proofs.Common.{◌≡◌, ◌+◌, ◌∷◌, [], length, ap, sym, ◌∙◌}
use Rattle.cov_space.specs.Sets.{SpaceOf}
use Rattle.cov_space.specs.Steps.{with_more}
use Rattle.cov_fields.proofs.Steps.{count_last}
use Rattle.cov_places.specs.Steps.{below_set}
use Rattle.cov_places.proofs.Numbers.{below_turn}
use Rattle.cov_places.proofs.below.put_below.Goals as goal

pub loop-k-preserved : goal.loop-k-preserved
loop-k-preserved c =
    let old : SpaceOf = c.args.sp.now in
    let count : length old.sets ≡ c.sets-n.result = sym c.sets-n.ensures.count in
    let is : c.settle.new.self ≡ with_more old (below_set old.levels c.args.field (c.loop-k.k + 1) ∷ []) =
    below_turn old c.loop-k.sp c.put_number.new.sp c.or.new.self c.settle.new.self c.args.field c.loop-k.k c.sets-n.result count c.loop-k.invariant.is c.in_ok-put_number.ensures.ok c.in_ok-or.ensures.ok c.settle.ensures in
    record {
      is = is;
      count = count_last old c.settle.new.self c.sets-n.result _ count is ∙ ap (λ m. m + 1) (sym count);
      places = ap (λ (z : SpaceOf). z.places) is;
      levels = ap (λ (z : SpaceOf). z.levels) is;
    }
