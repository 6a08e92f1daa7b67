use Rattle.std.proofs.Common.{◌≡◌, ◌+◌, ◌-◌, ◌*◌, ◌<◌, ◌≤◌, ◌∷◌, [], List, Bool, rules, sym, ◌∙◌, ap, subst, arith}
use Rattle.cov_bits.specs.Layout.{bits}
use Rattle.cov_space.specs.Sets.{SpaceOf}
use Rattle.cov_space.specs.Steps.{with_more, Leaves}
use Rattle.cov_space.proofs.Calls.{err_exit}
use Rattle.cov_image.proofs.Stacks.{count_last, puts_last}
use Rattle.cov_sym.specs.Pairs.{differing_set}
use Rattle.cov_sym.proofs.Exchanging.{base_is}
use Rattle.cov_sym.proofs.Differences.{differing_all, differing_from, differing_none, joined_on}
use Rattle.cov_sym.proofs.differing.put_differing.Goals as goal

pub loop-b-init : goal.loop-b-init
loop-b-init c =
    let old : SpaceOf = c.args.sp.now in
    let bits_are : c.bits-b.result ≡ bits c.args.plan.now = c.bits-b.ensures.value in
    let whole : old.levels ≡ 3 * c.bits-b.result = c.requires.levels ∙ ap (λ k. 3 * k) (sym bits_are) in
    record {
      is = c.constant.ensures.is ∙ ap (λ (y : List Bool). with_more old (y ∷ [])) (differing_none old.levels c.bits-b.result whole);
      count = c.constant.ensures.count;
      places = ap (λ (z : SpaceOf). z.places) c.constant.ensures.is;
      levels = ap (λ (z : SpaceOf). z.levels) c.constant.ensures.is;
      within = omega arith;
    }

pub loop-b-preserved : goal.loop-b-preserved
loop-b-preserved c =
    let old : SpaceOf = c.args.sp.now in
    let n = c.sets-n.result in
    let b = c.loop-b.b in
    let positive : 0 < b = c.loop-b-test.true in
    let within : b ≤ bits c.args.plan.now = c.loop-b.invariant.within in
    let whole : old.levels ≡ 3 * bits c.args.plan.now = c.requires.levels in
    let up : b ≡ b - 1 + 1 = omega arith in
    let lt : 3 * (b - 1) + 2 < old.levels = omega arith in
    let is : c.join_bit.new.sp ≡ with_more old (differing_from old.levels (b - 1) ∷ []) =
    joined_on old c.loop-b.sp c.join_bit.new.sp n (b - 1) (sym c.sets-n.ensures.count) (c.loop-b.invariant.is ∙ ap (λ k. with_more old (differing_from old.levels k ∷ [])) up) lt c.in_ok-join_bit.ensures.ok in
    record {
      is = is;
      count = count_last old c.join_bit.new.sp n _ (sym c.sets-n.ensures.count) is ∙ ap (λ k. k + 1) c.sets-n.ensures.count;
      places = ap (λ (z : SpaceOf). z.places) is;
      levels = ap (λ (z : SpaceOf). z.levels) is;
      within = omega arith;
    }

pub returns-clause-ok : goal.returns-clause-ok
returns-clause-ok c =
    let old : SpaceOf = c.args.sp.now in
    let done : c.loop-b.b ≡ 0 = omega arith in
    puts_last old c.loop-b.sp (differing_set old.levels c.args.plan.now)
    (c.loop-b.invariant.is ∙ ap (λ k. with_more old (differing_from old.levels k ∷ [])) done
    ∙ ap (λ (y : List Bool). with_more old (y ∷ [])) (differing_all old.levels c.args.plan.now c.requires.levels))

pub returns-in_err-join_bit-clause-err : goal.returns-in_err-join_bit-clause-err
returns-in_err-join_bit-clause-err c =
    let old : SpaceOf = c.args.sp.now in
    err_exit c.from_residual.result c.in_err-join_bit.field-0.0 _ (search rules)
    (subst (λ (z : SpaceOf). Leaves z c.join_bit.new.sp c.in_err-join_bit.field-0.0) (base_is old c.loop-b.sp (differing_from old.levels c.loop-b.b ∷ []) c.sets-n.result (sym c.sets-n.ensures.count) c.loop-b.invariant.is) c.in_err-join_bit.ensures.err)
