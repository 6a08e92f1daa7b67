use Rattle.cov_bits.proofs.Codes.{place_in_row, places_named, place_of_row, code-places}
use Rattle.cov_bits.proofs.laws.places_in_rows.Goals as goal

pub returns : goal.returns
returns c = record { held = place_in_row; named = places_named; at = place_of_row; coded = code-places }
