use Rattle.cov_bits.proofs.Codes.{places_named}
use Rattle.cov_places.proofs.States.{inverted, present, next, one}
use Rattle.cov_places.proofs.laws.rows_name_states.Goals as goal

pub returns : goal.returns
returns c = record { inverted = inverted; present = present; next = next; one = one; named = places_named }
