use Rattle.cov_fields.proofs.Places.{place_held}
use Rattle.cov_fields.proofs.laws.codes_hold_places.Goals as goal

pub returns : goal.returns
returns c = record { place = place_held }
