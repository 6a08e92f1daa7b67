use Rattle.std.proofs.Common.{◌≡◌, ◌∷◌, [], OnOk, sym, subst}
use Rattle.cov_model.specs.declared.model.Model.{Model}
use Rattle.cov_space.specs.Sets.{set_at}
use Rattle.cov_space.specs.Steps.{with_more}
use Rattle.cov_conditions.specs.Fixed.{first_sets, typed_part}
use Rattle.cov_conditions.proofs.Concluding.{condition_put}
use Rattle.cov_conditions.proofs.condition.condition_steps.Goals as goal

pub returns-clause-ok : goal.returns-clause-ok
returns-clause-ok c =
    condition_put c.narrow_to_points.result c.args.sp.now c.put_family.new.sp c.narrow_to_points.new.sp c.sets-n.result c.args.m.now c.args.at c.args.e.now (sym c.sets-n.ensures.count)
    (c.one_choice.ensures c.args.m.now c.model.ensures.formed c.args.e.now c.requires.expression.stands c.requires.single) c.requires.present c.requires.next c.in_ok-put_family.ensures.ok
    (subst (λ (m : Model). OnOk c.narrow_to_points.result (c.narrow_to_points.new.sp ≡ with_more (first_sets c.put_family.new.sp c.sets-n.result) (typed_part c.put_family.new.sp.levels m c.args.at (set_at c.put_family.new.sp.sets c.sets-n.result) ∷ []))) c.model.ensures.value c.narrow_to_points.ensures.ok)
