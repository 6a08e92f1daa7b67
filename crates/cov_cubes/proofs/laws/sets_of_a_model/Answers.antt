use Rattle.cov_cubes.proofs.ModelSets.{model_sets}
use Rattle.cov_cubes.proofs.laws.sets_of_a_model.Goals as goal

pub returns : goal.returns
returns c = model_sets
