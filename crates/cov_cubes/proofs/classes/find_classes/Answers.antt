use Rattle.std.proofs.Common.{◌≡◌, ◌+◌, ℕ, Bool, length, ap, sym, ◌∙◌, arith, length-append}
use Rattle.cov_space.specs.Sets.{SpaceOf, set_at}
use Rattle.cov_cubes.specs.Steps.{rests, classes_by}
use Rattle.cov_cubes.proofs.Turns.{length-rests, alike_behind}
use Rattle.cov_cubes.proofs.classes.find_classes.Goals as goal

pub classes_at-requires : goal.classes_at-requires
classes_at-requires c =
    let old : SpaceOf = c.args.sp.now in
    let more = rests old.levels c.args.y.field (set_at old.sets c.args.set) c.args.y.size in
    let n : length c.put_rests.new.sp.sets ≡ length old.sets + length more = ap (λ (z : SpaceOf). length z.sets) c.in_ok-put_rests.ensures.ok ∙ length-append old.sets more in
    omega (arith, length-rests old.levels c.args.y.field (set_at old.sets c.args.set) c.args.y.size)

pub returns-clause-ok : goal.returns-clause-ok
returns-clause-ok c =
    let old : SpaceOf = c.args.sp.now in
    c.in-Ok.ensures ∙ ap (λ (same : ℕ → ℕ → Bool). classes_by same c.args.y.size) (alike_behind old c.put_rests.new.sp _ c.sets-n.result c.in_ok-put_rests.ensures.ok (sym c.sets-n.ensures.count))
