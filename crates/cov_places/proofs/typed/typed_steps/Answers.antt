use Rattle.std.proofs.Common.{◌≡◌, ◌+◌, ◌*◌, ◌≤◌, ◌^◌, ◌∷◌, [], List, ℕ, length, take, ap, sym, ◌∙◌, subst, arith}
use Rattle.cov_bits.specs.Layout.{bits, width}
use Rattle.cov_space.specs.Sets.{SpaceOf}
use Rattle.cov_space.specs.Steps.{with_more}
use Rattle.cov_fields.specs.declared.field.Field.{Field}
use Rattle.cov_fields.specs.Fields.{IsField}
use Rattle.cov_fields.proofs.Steps.{count_last}
use Rattle.cov_places.specs.Places.{typed_set}
use Rattle.cov_places.proofs.Variables.{Reads, reads, typed_turn}
use Rattle.cov_places.proofs.typed.typed_steps.Goals as goal

pub overflow_cast-size : goal.overflow_cast-size
overflow_cast-size c =
    let r : Reads c.args.plan.now c.loop-x.x-index c.args.layer c.loop-x.first c.len-size.result = reads c.args.plan.now c.args.m.now.vars c.as_slice-x-items.result.now c.loop-x.x-index c.x-item.result c.args.layer c.loop-x.first c.len-size.result c.requires.plan c.bits-bits.ensures.sized c.as_slice-x-items.ensures c.loop-x-test.true c.x-item.is c.len-size.ensures c.loop-x.invariant.first in
    omega (arith, r.sized.1)

pub field_from-field-requires : goal.field_from-field-requires
field_from-field-requires c =
    let r : Reads c.args.plan.now c.loop-x.x-index c.args.layer c.loop-x.first c.len-size.result = reads c.args.plan.now c.args.m.now.vars c.as_slice-x-items.result.now c.loop-x.x-index c.x-item.result c.args.layer c.loop-x.first c.len-size.result c.requires.plan c.bits-bits.ensures.sized c.as_slice-x-items.ensures c.loop-x-test.true c.x-item.is c.len-size.ensures c.loop-x.invariant.first in
    r.sized.0

pub meet_below-requires-clause-field : goal.meet_below-requires-clause-field
meet_below-requires-clause-field c =
    let r : Reads c.args.plan.now c.loop-x.x-index c.args.layer c.loop-x.first c.len-size.result = reads c.args.plan.now c.args.m.now.vars c.as_slice-x-items.result.now c.loop-x.x-index c.x-item.result c.args.layer c.loop-x.first c.len-size.result c.requires.plan c.bits-bits.ensures.sized c.as_slice-x-items.ensures c.loop-x-test.true c.x-item.is c.len-size.ensures c.loop-x.invariant.first in
    let levels : 3 * bits c.args.plan.now ≡ c.loop-x.sp.levels = sym (c.loop-x.invariant.levels ∙ c.requires.levels) in
    subst (λ m. IsField m c.field_from-field.result) levels (subst (IsField (3 * bits c.args.plan.now)) (sym (c.field_from-field.ensures ∙ r.field)) r.fits)

pub meet_below-requires-clause-fits : goal.meet_below-requires-clause-fits
meet_below-requires-clause-fits c =
    let r : Reads c.args.plan.now c.loop-x.x-index c.args.layer c.loop-x.first c.len-size.result = reads c.args.plan.now c.args.m.now.vars c.as_slice-x-items.result.now c.loop-x.x-index c.x-item.result c.args.layer c.loop-x.first c.len-size.result c.requires.plan c.bits-bits.ensures.sized c.as_slice-x-items.ensures c.loop-x-test.true c.x-item.is c.len-size.ensures c.loop-x.invariant.first in
    subst (λ w. c.len-size.result ≤ 2 ^ w) (sym (ap (λ (f : Field). f.width) c.field_from-field.ensures)) r.holds

pub overflow_add-first : goal.overflow_add-first
overflow_add-first c =
    let r : Reads c.args.plan.now c.loop-x.x-index c.args.layer c.loop-x.first c.len-size.result = reads c.args.plan.now c.args.m.now.vars c.as_slice-x-items.result.now c.loop-x.x-index c.x-item.result c.args.layer c.loop-x.first c.len-size.result c.requires.plan c.bits-bits.ensures.sized c.as_slice-x-items.ensures c.loop-x-test.true c.x-item.is c.len-size.ensures c.loop-x.invariant.first in
    let w : c.field_from-field.result.width ≡ width c.len-size.result = ap (λ (f : Field). f.width) c.field_from-field.ensures in
    let within : bits c.args.plan.now ≤ 60 = c.bits-bits.ensures.within in
    omega arith

pub loop-x-preserved : goal.loop-x-preserved
loop-x-preserved c =
    let old : SpaceOf = c.args.sp.now in
    let ns : List ℕ = c.args.plan.now in
    let r : Reads c.args.plan.now c.loop-x.x-index c.args.layer c.loop-x.first c.len-size.result = reads c.args.plan.now c.args.m.now.vars c.as_slice-x-items.result.now c.loop-x.x-index c.x-item.result c.args.layer c.loop-x.first c.len-size.result c.requires.plan c.bits-bits.ensures.sized c.as_slice-x-items.ensures c.loop-x-test.true c.x-item.is c.len-size.ensures c.loop-x.invariant.first in
    let count : length old.sets ≡ c.sets-n.result = sym c.sets-n.ensures.count in
    let is : c.meet_below.new.sp ≡ with_more old (typed_set old.levels (take (c.loop-x.x-index + 1) ns) c.args.layer ∷ []) =
    typed_turn old c.loop-x.sp c.meet_below.new.sp ns c.args.layer c.loop-x.x-index c.sets-n.result c.len-size.result c.field_from-field.result count r.within (c.field_from-field.ensures ∙ r.field) r.own c.loop-x.invariant.is c.in_ok-meet_below.ensures.ok in
    record {
      is = is;
      count = count_last old c.meet_below.new.sp c.sets-n.result _ count is ∙ ap (λ m. m + 1) (sym count);
      places = ap (λ (z : SpaceOf). z.places) is;
      levels = ap (λ (z : SpaceOf). z.levels) is;
      first = ap (λ (f : Field). c.loop-x.first + f.width) c.field_from-field.ensures ∙ r.next;
    }
