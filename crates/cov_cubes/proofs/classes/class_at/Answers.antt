use Rattle.std.proofs.Common.{◌∙◌, sym, true, false}
use Rattle.cov_cubes.specs.Steps.{alike}
use Rattle.cov_cubes.proofs.Equal.{class_more}
use Rattle.cov_cubes.proofs.classes.class_at.Goals as goal
use Rattle.cov_cubes.proofs.classes.class_at.Goals.{then-alike+in_ok-push, else-alike}

pub loop-w-preserved : goal.loop-w-preserved
loop-w-preserved c =
    elim c.if-alike.branch [
      | then-alike+in_ok-push w ↦ class_more (λ u. alike c.args.sp.now.sets c.args.base c.args.v u) c.loop-w.w c.args.size c.loop-w.class c.if-alike.class _ true c.loop-w-test.true (sym c.alike.ensures ∙ w.if-alike.true) (w.class-is ∙ w.in_ok-push.ensures.ok) c.loop-w.invariant
      | else-alike w ↦ class_more (λ u. alike c.args.sp.now.sets c.args.base c.args.v u) c.loop-w.w c.args.size c.loop-w.class c.if-alike.class _ false c.loop-w-test.true (sym c.alike.ensures ∙ w.if-alike.false) w.class-is c.loop-w.invariant
    ]
