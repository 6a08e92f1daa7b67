use Rattle.std.proofs.Common.{◌≡◌, ◌+◌, length, ap, map, arith}
use Rattle.cov_classes.specs.Cubes.{values}
use Rattle.cov_space.specs.Sets.{SpaceOf, set_at}
use Rattle.cov_space.specs.Steps.{with_more}
use Rattle.cov_fields.specs.Sets.{rest_set}
use Rattle.cov_cubes.proofs.Turns.{rests_turn}
use Rattle.cov_cubes.proofs.classes.put_rests.Goals as goal

pub loop-v-preserved : goal.loop-v-preserved
loop-v-preserved c =
    let old : SpaceOf = c.args.sp.now in
    let is : c.restrict_to.new.sp ≡ with_more old (map (λ v. rest_set old.levels c.args.field v (set_at old.sets c.args.set)) (values (c.loop-v.v + 1))) =
    rests_turn old c.loop-v.sp c.restrict_to.new.sp c.args.field c.args.set c.loop-v.v c.requires.set c.loop-v.invariant.is c.in_ok-restrict_to.ensures.ok in
    let count : length c.restrict_to.new.sp.sets ≡ length c.loop-v.sp.sets + 1 = c.in_ok-restrict_to.ensures.ok.count in
    let before : length c.loop-v.sp.sets ≡ length old.sets + c.loop-v.v = c.loop-v.invariant.count in
    record { is = is; count = omega arith; places = ap (λ (z : SpaceOf). z.places) is; levels = ap (λ (z : SpaceOf). z.levels) is }
