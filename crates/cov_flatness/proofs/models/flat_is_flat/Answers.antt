use Rattle.cov_flatness.proofs.FlatLaw.{flat-is-flat}
use Rattle.cov_flatness.proofs.models.flat_is_flat.Goals as goal

pub returns : goal.returns
returns c = flat-is-flat
