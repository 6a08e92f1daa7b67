use Rattle.std.proofs.Common.{arith, ◌≡◌, ◌+◌, ◌*◌, ◌<◌, ◌∷◌, [], ap}
use Rattle.cov_space.specs.Layers.{place_of}
use Rattle.cov_space.specs.Sets.{SpaceOf, set_at}
use Rattle.cov_space.specs.Steps.{with_more}
use Rattle.cov_space.proofs.Rows.{place_lt}
use Rattle.cov_bits.specs.Layout.{bits}
use Rattle.cov_conditions.specs.Fixed.{first_sets, cleared_set}
use Rattle.cov_conditions.proofs.Clearing.{clear_step}
use Rattle.cov_conditions.proofs.Typing.{first_count}
use Rattle.cov_fields.proofs.Steps.{count_last}
use Rattle.cov_conditions.proofs.typed.clear.Goals as goal

pub loop-b-preserved : goal.loop-b-preserved
loop-b-preserved c =
    let old : SpaceOf = c.args.sp.now in
    let below : place_of c.args.layer < 3 = place_lt c.args.layer in
    let levels : old.levels ≡ 3 * bits c.args.plan.now = c.requires.levels in
    let value : c.bits-bits.result ≡ bits c.args.plan.now = c.bits-bits.ensures.value in
    let same : c.place-place.result ≡ place_of c.args.layer = c.place-place.ensures.is in
    let is : c.settle.new.self ≡ with_more (first_sets old c.args.n) (cleared_set old.levels c.args.layer (c.loop-b.b + 1) (set_at old.sets c.args.n) ∷ []) =
    clear_step old c.loop-b.sp c.restrict.new.self c.settle.new.self c.args.n c.loop-b.b _ c.args.layer (set_at old.sets c.args.n) c.requires.last (omega arith) (omega arith) c.loop-b.invariant.is c.in_ok-restrict.ensures.ok c.settle.ensures in
    record {
      is = is;
      count = count_last (first_sets old c.args.n) c.settle.new.self c.args.n _ (first_count old c.args.n c.requires.last) is;
      places = ap (λ (z : SpaceOf). z.places) is;
      levels = ap (λ (z : SpaceOf). z.levels) is;
    }
