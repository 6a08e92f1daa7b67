use Rattle.cov_cubes.proofs.Equal.{equal_test}
use Rattle.cov_cubes.proofs.classes.alike.Goals as goal

pub returns : goal.returns
returns c = equal_test c.same.result _ _ c.same.ensures.sets
