use Rattle.cov_ranges.proofs.Places.{parts_stand}
use Rattle.cov_ranges.proofs.standing.parts_stand.Goals as goal

pub returns : goal.returns
returns c = λ m x e h p. parts_stand m x e h p
