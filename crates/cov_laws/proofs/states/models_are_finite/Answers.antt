use Rattle.cov_laws.proofs.TypedStates.{finite_law}
use Rattle.cov_laws.proofs.states.models_are_finite.Goals as goal

pub returns : goal.returns
returns g c = finite_law _
