use Rattle.std.proofs.Common.{refl, ◌≡◌, ◌∷◌, [], ◌∙◌, ap, List, Bool}
use Rattle.cov_space.specs.Sets.{SpaceOf, set_at}
use Rattle.cov_space.specs.Steps.{with_more}
use Rattle.cov_conditions.specs.Fixed.{first_sets}
use Rattle.cov_conditions.proofs.Typing.{typed_once, narrowed_twice}
use Rattle.cov_conditions.proofs.typed.narrow_to_points.Goals as goal

pub returns-then-is_one-clause-ok : goal.returns-then-is_one-clause-ok
returns-then-is_one-clause-ok c =
    let old : SpaceOf = c.args.sp.now in
    let one : c.args.at.next ≡ c.args.at.present = c.if-is_one.ensures.0 refl in
    c.in_ok-narrow.ensures.ok ∙ ap (λ (z : List Bool). with_more (first_sets old c.args.n) (z ∷ [])) (typed_once c.args.m.now old.levels c.args.plan.now c.args.at (set_at old.sets c.args.n) c.requires.plan one)

pub returns-clause-ok : goal.returns-clause-ok
returns-clause-ok c =
    narrowed_twice c.narrow-2.result c.args.m.now c.args.sp.now c.narrow.new.sp c.narrow-2.new.sp c.args.n c.args.plan.now c.args.at c.requires.last c.requires.plan c.in_ok-narrow.ensures.ok c.narrow-2.ensures.ok
