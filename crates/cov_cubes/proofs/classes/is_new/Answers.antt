use Rattle.std.proofs.Common.{◌∙◌, sym}
use Rattle.cov_cubes.specs.Steps.{alike}
use Rattle.cov_cubes.proofs.Equal.{any_more}
use Rattle.cov_cubes.proofs.classes.is_new.Goals as goal

pub loop-w-preserved : goal.loop-w-preserved
loop-w-preserved c = any_more (λ w. alike c.args.sp.now.sets c.args.base c.args.v w) c.loop-w.w c.args.v _ c.loop-w-test.true (sym c.alike.ensures ∙ c.if-alike.false) c.loop-w.invariant
