use Rattle.std.proofs.Common.{◌≡◌, false, ◌+◌, ◌<◌, ◌++◌, ◌∷◌, [], List, ℕ, Bool, length, drop, get_or, refl, sym, ◌∙◌, ap, arith}
use Rattle.cov_classes.specs.Partition.{first_state}
use Rattle.cov_space.specs.declared.layer.Layer.TheVariants.{V}
use Rattle.cov_space.specs.Sets.{SpaceOf, set_at}
use Rattle.cov_fields.specs.Fields.{field_of}
use Rattle.cov_fields.specs.Sets.{rest_set}
use Rattle.cov_fields.proofs.Steps.{count_last}
use Rattle.cov_cubes.specs.States.{states_in}
use Rattle.cov_cubes.specs.Rests.{states_of, after}
use Rattle.cov_cubes.proofs.Rests.{top_is}
use Rattle.cov_cubes.proofs.Sizes.{length-plan}
use Rattle.cov_cubes.proofs.Firsts.{rest_next, first_turn, first_fails, first_ends, after_none, true_false}
use Rattle.cov_cubes.proofs.Turns.{not_failed, empty_here, here_empty, Fixes, fixes, fixes_none}
use Rattle.cov_cubes.proofs.least.first_steps.Goals as goal

pub loop-x-init : goal.loop-x-init
loop-x-init c =
    let old : SpaceOf = c.args.sp.now in
    record {
      set = set_at old.sets c.args.set;
      is = c.copy.ensures.is;
      count = c.copy.ensures.count;
      places = ap (λ (z : SpaceOf). z.places) c.copy.ensures.is;
      levels = ap (λ (z : SpaceOf). z.levels) c.copy.ensures.is;
      rest = top_is old.levels c.args.plan.now (set_at old.sets c.args.set) c.requires.levels c.requires.states;
      first = ap (λ (front : List ℕ). after front (first_state c.args.plan.now (states_in c.args.plan.now old.levels (set_at old.sets c.args.set)))) c.new-state.ensures ∙ after_none _;
    }

pub loop-x-preserved : goal.loop-x-preserved
loop-x-preserved c =
    let old : SpaceOf = c.args.sp.now in
    let ns : List ℕ = c.args.plan.now in
    let i = c.loop-x.invariant in
    let x : ℕ = c.loop-x.x in
    let v : ℕ = c.in-Some-2.v in
    let count : length old.sets ≡ c.sets-n.result = sym c.sets-n.ensures.count in
    let whole : length ns ≡ length c.args.m.now.vars = length-plan ns c.args.m.now.vars c.requires.plan in
    let lx : x < length ns = omega arith in
    let f : Fixes old c.settle.new.self (field_of ns x V) i.set (get_or ns x 0) v =
    fixes old c.loop-x.sp c.put_least.new.sp c.settle.new.self ns x v c.sets-n.result c.in-Some.y i.set c.in_ok-v.field-0 count i.is c.in-Some.ensures c.in-Some-2.is c.in_ok-v.ensures.ok c.settle.ensures in
    let r : List Bool = rest_set old.levels (field_of ns x V) v i.set in
    let pushed : c.push.new.self ≡ c.loop-x.state ++ v ∷ [] = not_failed c.push.result c.is_err.result _ c.is_err.ensures.value c.if-is_err.false c.push.ensures.ok in
    record {
      set = r;
      is = f.is;
      count = count_last old c.settle.new.self c.sets-n.result r count f.is ∙ ap (λ m. m + 1) (sym count);
      places = ap (λ (z : SpaceOf). z.places) f.is;
      levels = ap (λ (z : SpaceOf). z.levels) f.is;
      rest = rest_next old.levels ns x v i.set lx i.rest f.least.below;
      first = ap (λ (front : List ℕ). after front (first_state (drop (x + 1) ns) (states_of old.levels ns (x + 1) r))) pushed
          ∙ first_turn old.levels ns x v i.set c.loop-x.state _ lx i.rest f.least i.first;
    }

pub returns-in_default-2-clause-first : goal.returns-in_default-2-clause-first
returns-in_default-2-clause-first c =
    let old : SpaceOf = c.args.sp.now in
    let ns : List ℕ = c.args.plan.now in
    let i = c.loop-x.invariant in
    let x : ℕ = c.loop-x.x in
    let whole : length ns ≡ length c.args.m.now.vars = length-plan ns c.args.m.now.vars c.requires.plan in
    first_fails old.levels ns x i.set c.loop-x.state _ (omega arith) i.rest
    (fixes_none old c.loop-x.sp c.put_least.new.sp ns x c.sets-n.result c.in-Some.y i.set c.in_ok-v.field-0 (sym c.sets-n.ensures.count) i.is c.in-Some.ensures c.in_default-2.is c.in_ok-v.ensures.ok) i.first

pub returns-then-empty-clause-first : goal.returns-then-empty-clause-first
returns-then-empty-clause-first c =
    let old : SpaceOf = c.args.sp.now in
    let ns : List ℕ = c.args.plan.now in
    let i = c.loop-x.invariant in
    let whole : length ns ≡ length c.args.m.now.vars = length-plan ns c.args.m.now.vars c.requires.plan in
    (first_ends old.levels ns c.loop-x.x i.set c.loop-x.state _ (omega arith) i.rest i.first).0
    (empty_here old c.loop-x.sp i.set c.sets-n.result (sym c.sets-n.ensures.count) i.is (c.if-empty.ensures.empty.0 (cc)))

pub returns-clause-first : goal.returns-clause-first
returns-clause-first c =
    let old : SpaceOf = c.args.sp.now in
    let ns : List ℕ = c.args.plan.now in
    let i = c.loop-x.invariant in
    let whole : length ns ≡ length c.args.m.now.vars = length-plan ns c.args.m.now.vars c.requires.plan in
    (first_ends old.levels ns c.loop-x.x i.set c.loop-x.state _ (omega arith) i.rest i.first).1
    (λ empty. true_false false refl (c.if-empty.ensures.empty.1 (here_empty old c.loop-x.sp i.set c.sets-n.result (sym c.sets-n.ensures.count) i.is empty)))
