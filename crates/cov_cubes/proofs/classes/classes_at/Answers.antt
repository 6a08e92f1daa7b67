use Rattle.std.proofs.Common.{◌∙◌, sym, ap, true, false, List, ℕ, ◌++◌, ◌∷◌, []}
use Rattle.cov_cubes.specs.Steps.{alike}
use Rattle.cov_cubes.proofs.Equal.{classes_more}
use Rattle.cov_cubes.proofs.classes.classes_at.Goals as goal
use Rattle.cov_cubes.proofs.classes.classes_at.Goals.{then-begins_class+in_ok-class_at+in_ok-push, else-begins_class}

pub loop-v-preserved : goal.loop-v-preserved
loop-v-preserved c =
    elim c.if-begins_class.branch [
      | then-begins_class+in_ok-class_at+in_ok-push w ↦ classes_more (alike c.args.sp.now.sets c.args.base) c.loop-v.v c.args.size c.loop-v.classes c.if-begins_class.classes _ true c.loop-v-test.true (sym c.begins_class.ensures ∙ w.if-begins_class.true) (w.classes-is ∙ w.in_ok-push.ensures.ok ∙ ap (λ (k : List ℕ). c.loop-v.classes ++ k ∷ []) w.in_ok-class_at.ensures) c.loop-v.invariant
      | else-begins_class w ↦ classes_more (alike c.args.sp.now.sets c.args.base) c.loop-v.v c.args.size c.loop-v.classes c.if-begins_class.classes _ false c.loop-v-test.true (sym c.begins_class.ensures ∙ w.if-begins_class.false) w.classes-is c.loop-v.invariant
    ]
