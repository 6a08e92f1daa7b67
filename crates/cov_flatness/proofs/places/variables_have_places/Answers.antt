use Rattle.cov_flatness.proofs.FlatPlaces.{variable-place}
use Rattle.cov_flatness.proofs.places.variables_have_places.Goals as goal

pub returns : goal.returns
returns c = λ p flattenable h. variable-place p h
