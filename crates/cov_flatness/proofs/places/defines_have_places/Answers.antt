use Rattle.cov_flatness.proofs.FlatPlaces.{define-place}
use Rattle.cov_flatness.proofs.places.defines_have_places.Goals as goal

pub returns : goal.returns
returns c = λ p flattenable h. define-place p h
