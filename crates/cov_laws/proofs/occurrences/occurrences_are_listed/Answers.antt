use Rattle.cov_laws.proofs.Listing.{listed_law}
use Rattle.cov_laws.proofs.occurrences.occurrences_are_listed.Goals as goal

pub returns : goal.returns
returns g c = listed_law _
